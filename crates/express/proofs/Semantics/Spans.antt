-- The nodes of an expression and of a constant: where children stand, and that the nodes of a node hold those of each of them.
use mathlib.Core.Path.{◌≡◌, refl}
use mathlib.Core.Logic.{⊎_elim}
use mathlib.Core.Bool.{true, false≢true}
use mathlib.Core.List.{[], ◌∷◌, ◌++◌}
use Prim.Native.Nat.{ℕ, zero, suc, ◌+◌, ◌-◌, ◌≤◌, ◌<◌}
use native.Mathlib.Decide.{ℕ_discrete, dec_lt}
use native.Mathlib.Omega.{arith}
use borrow.Author.Tests.{eqb-true, eq-eqb, leb-true, le-leb}
use lib.Dec.{eqb, leb}
use lib.ListN.{get_or-eq_default}
use Rattle.ebnf.specs.Set.{mem, subset, disjoint}
use Rattle.relations.specs.Select.{span}
use Rattle.ebnf.proofs.Sets.{in_more, in_left, in_cases, mem_one}
use Rattle.express.specs.Syntax.NodeKind as node
use Rattle.express.specs.Syntax.Tree.{Table, count, kind, size, last, first, left, upper, middle, lower, low, is, is_declaration, owner, type_node, within}
use Rattle.express.specs.Semantics.Kind.{Constant}
use Rattle.express.proofs.Syntax.KindSets.{expression_kinds, base_kinds, leaf_kinds, operation_kinds, below_constant, base_leaf}
use Rattle.express.proofs.Syntax.Formed.{Formed}
use Rattle.express.proofs.Names.Owned.{undeclared}
use Rattle.relations.proofs.Select.{and_fst, and_snd, and_both, or_cases, le_or, first_is, first_of, span_append}

-- The kinds of nodes that lie in a constant, other than itself
abbrev pub Part : ℕ → Type 0
Part k = mem k below_constant ≡ true

expression_part : (k : ℕ) → mem k expression_kinds ≡ true → Part k
unfolding mem subset
expression_part k e = in_more k expression_kinds below_constant refl e

operator_part : (k : ℕ) → k ≡ node.interval_operator → Part k
unfolding mem
operator_part k e = rw e

base_part : (k : ℕ) → mem k base_kinds ≡ true → Part k
base_part k e = in_left k leaf_kinds operation_kinds (base_leaf k e)

-- Which children a node has
pub data Class (k : ℕ) : Type 0 where
  none : mem k leaf_kinds ≡ true → Class k
  one : k ≡ node.unary → Class k
  two : k ≡ node.two_operand → Class k
  five : k ≡ node.interval → Class k

class : (k : ℕ) → Part k → Class k
unfolding mem
class k p = ⊎_elim (λ e. none e) operation (in_cases k leaf_kinds operation_kinds p)
  where
    operation : mem k operation_kinds ≡ true → Class k
    operation e =
        ⊎_elim (λ i. one (eqb-true k node.unary i))
        (λ i. ⊎_elim (λ j. two (eqb-true k node.two_operand j)) (λ j. five (mem_one k node.interval j)) (or_cases (eqb k node.two_operand) _ i))
        (or_cases (eqb k node.unary) _ e)

-- The nodes from lo up to hi, hi itself not, are those of whole trees of such kinds: the last one has the root c and begins at mid.
data Forest (t : Table) (lo : ℕ) : ℕ → Type 0 where
  empty : {hi : ℕ} → lo ≡ hi → Forest t lo hi
  tree : {hi : ℕ} (mid c : ℕ) → hi ≡ c + 1 → mid + size t c ≡ hi → lo ≤ mid → Part (kind t c) → Forest t lo mid → Forest t lo hi

no_tree : {t : Table} {lo hi : ℕ} → lo ≡ hi → Forest t lo hi
no_tree e = empty e

a_tree :
    {t : Table} {lo hi : ℕ} (mid c : ℕ) → Part (kind t c) → hi ≡ c + 1 → mid + size t c ≡ hi → lo ≤ mid → Forest t lo mid → Forest t lo hi
a_tree mid c p e z l more = tree mid c e z l p more

-- Node m lies in the tree of node c.
pub record Lies (t : Table) (m c : ℕ) : Type 0 where
  pub from : first t c ≤ m
  pub upto : m ≤ c

record Found (t : Table) (lo hi m : ℕ) : Type 0 where
  root : ℕ
  lies : Lies t m root
  part : Part (kind t root)
  low : lo ≤ first t root
  high : root < hi

find : (t : Table) (lo hi m : ℕ) → Forest t lo hi → lo ≤ m → m < hi → Found t lo hi m
find t lo hi m (empty e) a b = absurd (omega arith)
find t lo hi m (tree mid c e z l p more) a b = by (dec_lt m mid) (λ i. find t lo mid m more a i)
  where
    by : Dec (m < mid) → (m < mid → Found t lo mid m) → Found t lo hi m
    by (yes i) down =
        let r = down i in
        record { root = r.root; lies = r.lies; part = r.part; low = r.low; high = omega (arith, r.high) }
    by (no i) down =
        record { root = c; lies = record { from = omega arith; upto = omega arith }; part = p; low = omega arith; high = omega arith }

-- A child: a node among the nodes before its parent
pub record Below (t : Table) (n c : ℕ) : Type 0 where
  pub from : first t n ≤ c
  pub under : c < n

-- The operands of an interval, and the nodes of its operators
pub record Operands (t : Table) (n : ℕ) : Type 0 where
  pub low_below : Below t n (low t n)
  pub middle_below : Below t n (middle t n)
  pub high_below : Below t n (last n)
  pub lower_below : Below t n (lower t n)
  pub upper_below : Below t n (upper t n)

-- the places of five children, h the last and l the first, from their sizes
record Places (n h u m o l sh su sm so sl : ℕ) : Type 0 where
  parent : n ≡ h + 1
  high : u + sh ≡ h
  upper_at : m + su ≡ u
  item : o + sm ≡ m
  lower_at : l + so ≡ o
  leaf_kinds : (su ≡ 1) × (so ≡ 1)

places :
    (n h u m o l sh su sm so sl sn : ℕ) → h ≡ n - 1 → u ≡ h - sh → m ≡ u - su → o ≡ m - sm → l ≡ o - so →
    sn ≡ sl + 1 + sm + 1 + sh + 1 → su ≡ 1 → so ≡ 1 → sn ≤ n + 1 → 1 ≤ sl → Places n h u m o l sh su sm so sl
places n h u m o l sh su sm so sl sn a b c d e z p q i w =
    let v : n ≡ h + 1 = omega arith in
    record { parent = v; high = omega arith; upper_at = omega arith; item = omega arith; lower_at = omega arith; leaf_kinds = (p, q) }

module _ (t : Table) (f : Formed t) where
  -- ---- children

  abbrev Trees : ℕ → Type 0
  Trees n = Forest t (first t n) n

  pub last_below : (n : ℕ) → n < count t → kind t n ≡ node.unary → Below t n (last n)
  last_below n l e =
      let c = f.unary n l e in
      let i = f.inside n l in
      let s : 1 ≤ size t (last n) = f.some (last n) (omega arith) in
      record { from = omega (arith, c.all); under = omega (arith, c.all) }

  one_trees : (n : ℕ) → n < count t → kind t n ≡ node.unary → Trees n
  one_trees n l e =
      let c = f.unary n l e in
      let i = f.inside n l in
      let s : 1 ≤ size t (last n) = f.some (last n) (omega arith) in
      let z = c.all in
      a_tree (first t n) (last n) (expression_part _ c.operand) (omega arith) (omega arith) (omega arith) (no_tree refl)

  pub left_below : (n : ℕ) → n < count t → kind t n ≡ node.two_operand → Below t n (left t n) × Below t n (last n)
  left_below n l e =
      let z = (f.operator n l e).all in
      let i = f.inside n l in
      let s : 1 ≤ size t (last n) = f.some (last n) (omega arith) in
      let r : 1 ≤ size t (left t n) = f.some (left t n) (omega arith) in
      (record { from = omega arith; under = omega arith }, record { from = omega arith; under = omega arith })

  two_trees : (n : ℕ) → n < count t → kind t n ≡ node.two_operand → Trees n
  two_trees n l e =
      let c = f.operator n l e in
      let z = c.all in
      let i = f.inside n l in
      let s : 1 ≤ size t (last n) = f.some (last n) (omega arith) in
      let r : 1 ≤ size t (left t n) = f.some (left t n) (omega arith) in
      a_tree (left t n + 1) (last n) (expression_part _ c.right_operand) (omega arith) (omega arith) (omega arith)
      (a_tree (first t n) (left t n) (expression_part _ c.left_operand) refl (omega arith) (omega arith) (no_tree refl))

  leaf_size : (n : ℕ) → n < count t → kind t n ≡ node.interval_operator → size t n ≡ 1
  unfolding mem
  leaf_size n l e = f.leaf n l (rw e)

  five_places :
      (n : ℕ) → n < count t → kind t n ≡ node.interval →
      Places n (last n) (upper t n) (middle t n) (lower t n) (low t n)
      (size t (last n)) (size t (upper t n)) (size t (middle t n)) (size t (lower t n)) (size t (low t n))
  five_places n l e =
      let c = f.interval n l e in
      places n _ _ _ _ _ _ _ _ _ _ _ refl refl refl refl refl c.all (leaf_size (upper t n) (omega arith) c.upper_operator)
      (leaf_size (lower t n) (omega arith) c.lower_operator) (f.inside n l) (f.some (low t n) (omega arith))

  pub five_below : (n : ℕ) → n < count t → kind t n ≡ node.interval → Operands t n
  five_below n l e =
      let c = f.interval n l e in
      let z = c.all in
      let i = f.inside n l in
      let s : 1 ≤ size t (last n) = f.some (last n) (omega arith) in
      let u : size t (upper t n) ≡ 1 = leaf_size (upper t n) (omega arith) c.upper_operator in
      let m : 1 ≤ size t (middle t n) = f.some (middle t n) (omega arith) in
      let v : size t (lower t n) ≡ 1 = leaf_size (lower t n) (omega arith) c.lower_operator in
      let w : 1 ≤ size t (low t n) = f.some (low t n) (omega arith) in
      record {
        low_below = record { from = omega arith; under = omega arith };
        middle_below = record { from = omega arith; under = omega arith };
        high_below = record { from = omega arith; under = omega arith };
        lower_below = record { from = omega arith; under = omega arith };
        upper_below = record { from = omega arith; under = omega arith };
      }

  five_trees : (n : ℕ) → n < count t → kind t n ≡ node.interval → Trees n
  five_trees n l e =
      let c = f.interval n l e in
      five (last n) (upper t n) (middle t n) (lower t n) (low t n) c.all (f.inside n l) (five_places n l e)
      (expression_part _ c.high_operand) (operator_part _ c.upper_operator) (expression_part _ c.item)
      (operator_part _ c.lower_operator) (expression_part _ c.low_operand)
    where
      five :
          (h u m o w : ℕ) → size t n ≡ size t w + 1 + size t m + 1 + size t h + 1 → size t n ≤ n + 1 →
          Places n h u m o w (size t h) (size t u) (size t m) (size t o) (size t w) →
          Part (kind t h) → Part (kind t u) → Part (kind t m) → Part (kind t o) → Part (kind t w) → Trees n
      five h u m o w z i p a b c d g =
          a_tree (u + 1) h a (omega arith) (omega arith) (omega arith)
          (a_tree (m + 1) u b refl (omega arith) (omega arith)
          (a_tree (o + 1) m c refl (omega arith) (omega arith)
          (a_tree (w + 1) o d refl (omega arith) (omega arith)
          (a_tree (first t n) w g refl (omega arith) (omega arith) (no_tree refl)))))

  pub value_below : (n : ℕ) → n < count t → kind t n ≡ node.constant → Below t n (last n)
  value_below n l e =
      let z = (f.constant n l e).all in
      let i = f.inside n l in
      let s : 1 ≤ size t (last n) = f.some (last n) (omega arith) in
      record { from = omega arith; under = omega arith }

  constant_trees : (n : ℕ) → n < count t → kind t n ≡ node.constant → Trees n
  constant_trees n l e =
      let c = f.constant n l e in
      let z = c.all in
      let i = f.inside n l in
      let s : 1 ≤ size t (last n) = f.some (last n) (omega arith) in
      let r : size t (left t n) ≡ 1 = f.leaf (left t n) (omega arith) (base_leaf (kind t (left t n)) c.base) in
      a_tree (left t n + 1) (last n) (expression_part _ c.value) (omega arith) (omega arith) (omega arith)
      (a_tree (first t n) (left t n) (base_part _ c.base) refl (omega arith) (omega arith) (no_tree refl))

  trees : (n : ℕ) → n < count t → Part (kind t n) → Trees n
  trees n l p = by (class (kind t n) p)
    where
      by : Class (kind t n) → Trees n
      by (none e) = let z : size t n ≡ 1 = f.leaf n l e in no_tree (omega arith)
      by (one e) = one_trees n l e
      by (two e) = two_trees n l e
      by (five e) = five_trees n l e

  -- ---- the nodes of a node

  -- with a node all of its nodes
  pub record Inside (d m : ℕ) : Type 0 where
    pub whole : first t d ≤ first t m
    pub part : Part (kind t m)

  inside_below : (b d m : ℕ) → d < b → d < count t → Part (kind t d) → Lies t m d → Inside d m
  inside_below zero d m a l p h = absurd (omega arith)
  inside_below (suc b) d m a l p h = by (ℕ_discrete m d) (λ c i q k. inside_below b c m (omega arith) (omega arith) q k)
    where
      by : Dec (m ≡ d) → ((c : ℕ) → c < d → Part (kind t c) → Lies t m c → Inside c m) → Inside d m
      by (yes e) down = record { whole = rw e (omega arith); part = rw e p }
      by (no e) down =
          let r = find t (first t d) d m (trees d l p) h.from (omega (arith, h.upto)) in
          let i = down r.root r.high r.part r.lies in
          record { whole = omega (arith, r.low, i.whole); part = i.part }

  -- the nodes of an expression
  pub in_expression : (r m : ℕ) → r < count t → Part (kind t r) → Lies t m r → Inside r m
  in_expression r m l p h = inside_below (suc r) r m (omega arith) l p h

  -- the nodes of a constant, other than itself
  pub in_constant : (d m : ℕ) → d < count t → kind t d ≡ node.constant → first t d ≤ m → m < d → Inside d m
  in_constant d m l e a b =
      let r = find t (first t d) d m (constant_trees d l e) a b in
      let c = r.high in
      let i = inside_below (suc r.root) r.root m (omega arith) (omega arith) r.part r.lies in
      record { whole = omega (arith, r.low, i.whole); part = i.part }

  -- in their order: its type, its expression, and itself
  pub constant_within : (d : ℕ) → d < count t → kind t d ≡ node.constant → within t d ≡ type_node t d ∷ (within t (last d) ++ (d ∷ []))
  unfolding span
  constant_within d l e =
      let z = (f.constant d l e).all in
      let i = f.inside d l in
      let s : 1 ≤ size t (last d) = f.some (last d) (omega arith) in
      let p : first t d ≡ type_node t d = omega arith in
      let q : size t d ≡ suc (size t (last d) + 1) = omega arith in
      let r : suc (type_node t d) ≡ first t (last d) = omega arith in
      let y : first t (last d) + size t (last d) ≡ d = omega arith in
      rw (p, q, r, span_append (first t (last d)) (size t (last d)) 1, y)

  -- they belong to it
  pub constant_owner : (d m : ℕ) → d < count t → kind t d ≡ node.constant → first t d ≤ m → m ≤ d → owner t m ≡ d
  unfolding owner mem disjoint
  constant_owner d m l e a b =
      first_of (is_declaration t) (count t) m d b l (rw e)
      (λ j lo hi. undeclared t j below_constant refl (in_constant d j l e (omega arith) hi).part)

  -- so no constant lies in another
  pub apart : (c d : ℕ) → d < count t → kind t c ≡ node.constant → kind t d ≡ node.constant → c < d → c < first t d
  unfolding mem
  apart c d l e g a = by (dec_lt c (first t d))
    where
      by : Dec (c < first t d) → c < first t d
      by (yes h) = h
      by (no h) = absurd (false≢true (rw e at (in_constant d c l g (omega arith) a).part))

-- ---- the nodes of constants

-- node n lies in the tree of a constant, or is it
pub record OfConstant (t : Table) (n : ℕ) : Type 0 where
  pub root : ℕ
  pub known : root < count t
  pub is_constant : kind t root ≡ node.constant
  pub from : first t root ≤ n
  pub upto : n ≤ root

-- the same by the test of its owner
pub of_constant : (t : Table) (n : ℕ) → Constant t n → OfConstant t n
unfolding owner
of_constant t n h =
    let o = owner t n in
    let e = eqb-true (kind t o) node.constant (and_fst (is t node.constant o) (leb (first t o) n) h) in
    record {
      root = o;
      known = ⊎_elim (λ l. let z : kind t o ≡ 0 = get_or-eq_default t.kinds 0 l in absurd (omega arith)) (λ l. l) (le_or (count t) o);
      is_constant = e;
      from = leb-true (first t o) n (and_snd (is t node.constant o) (leb (first t o) n) h);
      upto = (first_is (is_declaration t) n (count t - n)).from;
    }

pub constant_of : (t : Table) → Formed t → (n : ℕ) → OfConstant t n → Constant t n
constant_of t f n c =
    let o : owner t n ≡ c.root = constant_owner t f c.root n c.known c.is_constant c.from c.upto in
    rw o (and_both _ _ (eq-eqb _ _ c.is_constant) (le-leb _ _ c.from))
