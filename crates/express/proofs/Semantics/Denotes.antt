-- In a well-named file the declared type of a constant is found in as many turns as there are nodes: renamings run in no cycle.
use mathlib.Core.Path.{◌≡◌, refl, sym, ap, subst, ◌∙◌}
use mathlib.Core.Logic.{◌↔◌, ◌≢◌, ⊎_elim}
use mathlib.Core.Bool.{Bool, true, false, cond, not, ◌&&◌, ◌||◌, false≢true}
use mathlib.Core.List.Memᴰ
use mathlib.Core.List.{List, [], ◌∷◌, map, Memᴰ}
use Prim.Native.Nat.{ℕ, zero, suc, ◌+◌, ◌≤◌, ◌<◌}
use native.Mathlib.Omega.{arith}
use borrow.Author.Tests.{eqb-true, eqb-false, not-true}
use lib.Dec.{eqb}
use Rattle.ebnf.specs.Set.{mem, disjoint}
use lib.ListN.{length, get_or, get_or-eq_default}
use Rattle.ebnf.proofs.Sorts.{every}
use Rattle.express.specs.Syntax.NodeKind as node
use Rattle.relations.specs.Select.{span, keep}
use Rattle.express.specs.Syntax.Tree.{Table, count, kind, role, size, symbol, first, nodes, is, is_name_in, is_declaration, owner}
use Rattle.express.specs.Syntax.Tree as tree
use Rattle.relations.specs.Reach.{Reaches, direct, onward, edge, Joins, reaches}
use Rattle.express.specs.Names.Scope.{Meaning, several, one, meaning, items_of, item_meant, declarations_of, is_use}
use Rattle.express.specs.Names.Scope.{type_meant, means, binding_of, binding, bindings, super_edges, renaming_edges, type_edges}
use Rattle.express.specs.Names.Scope as scope
use Rattle.express.specs.Names.Fault.{is_value, cyclic}
use Rattle.express.specs.Names.Fault as stage
use Rattle.express.specs.Names.Names.{WellNamed}
use Rattle.express.specs.Syntax.Grammar.{file}
use Rattle.express.specs.Syntax.Syntax.{Read}
use Rattle.express.specs.Semantics.Declared.{Declared, enumeration, other, declaration, bound, simple, renames, denoted_in, denoted}
use Rattle.relations.proofs.Select.{and_fst, and_snd, untrue, le_or, mem_upto, keep_mem, mem_keep, keep_lt, mem_flat, column_at, first_of}
use Rattle.relations.proofs.Reach.{reaches_iff}
use Rattle.express.proofs.Syntax.FormedRows.{formed_rows}
use Rattle.express.proofs.Syntax.Nodes.{all_below}
use Rattle.express.proofs.Syntax.Within.{all_pass_below}
use Rattle.express.proofs.Syntax.KindSets as set
use Rattle.express.proofs.Names.Owned.{undeclared}

-- Node n is or names the type d: `denoted`, by rules and without a number of turns
pub data Denotes (t : Table) (b : List ℕ) : ℕ → Declared → Type 0 where
  a_simple_type : {n : ℕ} → is t node.simple_type n ≡ true → Denotes t b n (simple (tree.terminal t n))
  an_enumeration :
      {n : ℕ} → is t node.simple_type n ≡ false → bound t b node.type n ≡ true → is t node.enumeration_item (first t (declaration b n)) ≡ true →
      Denotes t b n (enumeration (declaration b n))
  a_renaming :
      {n : ℕ} {d : Declared} → is t node.simple_type n ≡ false → bound t b node.type n ≡ true → renames t (declaration b n) ≡ true →
      is t node.enumeration_item (first t (declaration b n)) ≡ false → Denotes t b (first t (declaration b n)) d → Denotes t b n d
  a_select :
      {n : ℕ} → is t node.simple_type n ≡ false → bound t b node.type n ≡ true → renames t (declaration b n) ≡ false →
      is t node.enumeration_item (first t (declaration b n)) ≡ false → Denotes t b n other
  no_type : {n : ℕ} → is t node.simple_type n ≡ false → bound t b node.type n ≡ false → Denotes t b n other

-- a node denotes one type
pub denotes_once : {t : Table} {b : List ℕ} {n : ℕ} {d e : Declared} → Denotes t b n d → Denotes t b n e → d ≡ e
denotes_once (a_simple_type s) (a_simple_type s') = refl
denotes_once (a_simple_type s) (an_enumeration x' y' i') = absurd (false≢true (sym x' ∙ s))
denotes_once (a_simple_type s) (a_renaming x' y' r' j' m') = absurd (false≢true (sym x' ∙ s))
denotes_once (a_simple_type s) (a_select x' y' l' j') = absurd (false≢true (sym x' ∙ s))
denotes_once (a_simple_type s) (no_type x' z') = absurd (false≢true (sym x' ∙ s))
denotes_once (an_enumeration x y i) (a_simple_type s') = absurd (false≢true (sym x ∙ s'))
denotes_once (an_enumeration x y i) (an_enumeration x' y' i') = refl
denotes_once (an_enumeration x y i) (a_renaming x' y' r' j' m') = absurd (false≢true (sym j' ∙ i))
denotes_once (an_enumeration x y i) (a_select x' y' l' j') = absurd (false≢true (sym j' ∙ i))
denotes_once (an_enumeration x y i) (no_type x' z') = absurd (false≢true (sym z' ∙ y))
denotes_once (a_renaming x y r j m) (a_simple_type s') = absurd (false≢true (sym x ∙ s'))
denotes_once (a_renaming x y r j m) (an_enumeration x' y' i') = absurd (false≢true (sym j ∙ i'))
denotes_once (a_renaming x y r j m) (a_renaming x' y' r' j' m') = denotes_once m m'
denotes_once (a_renaming x y r j m) (a_select x' y' l' j') = absurd (false≢true (sym l' ∙ r))
denotes_once (a_renaming x y r j m) (no_type x' z') = absurd (false≢true (sym z' ∙ y))
denotes_once (a_select x y l j) (a_simple_type s') = absurd (false≢true (sym x ∙ s'))
denotes_once (a_select x y l j) (an_enumeration x' y' i') = absurd (false≢true (sym j ∙ i'))
denotes_once (a_select x y l j) (a_renaming x' y' r' j' m') = absurd (false≢true (sym l ∙ r'))
denotes_once (a_select x y l j) (a_select x' y' l' j') = refl
denotes_once (a_select x y l j) (no_type x' z') = absurd (false≢true (sym z' ∙ y))
denotes_once (no_type x z) (a_simple_type s') = absurd (false≢true (sym x ∙ s'))
denotes_once (no_type x z) (an_enumeration x' y' i') = absurd (false≢true (sym z ∙ y'))
denotes_once (no_type x z) (a_renaming x' y' r' j' m') = absurd (false≢true (sym z ∙ y'))
denotes_once (no_type x z) (a_select x' y' l' j') = absurd (false≢true (sym z ∙ y'))
denotes_once (no_type x z) (no_type x' z') = refl

-- ---- enough turns, where each renaming lowers a number

module _ (t : Table) (b : List ℕ) (rank : ℕ → ℕ)
    (falls :
    (n : ℕ) → is t node.simple_type n ≡ false → bound t b node.type n ≡ true → is t node.enumeration_item (first t (declaration b n)) ≡ false →
    rank (first t (declaration b n)) < rank n) where
  enough : (f n : ℕ) → rank n < f → Denotes t b n (denoted_in f t b n)
  unfolding denoted_in
  enough zero n l = absurd (omega arith)
  enough (suc f) n l =
      by (is t node.simple_type n) (bound t b node.type n) (is t node.enumeration_item u) (renames t (declaration b n)) refl refl refl refl
      (λ h. enough f u (let z : rank n ≤ f = omega arith in omega arith))
    where
      u : ℕ
      u = first t (declaration b n)

      by :
          (p q r s : Bool) → is t node.simple_type n ≡ p → bound t b node.type n ≡ q → is t node.enumeration_item u ≡ r → renames t (declaration b n) ≡ s →
          (rank u < rank n → Denotes t b u (denoted_in f t b u)) →
          Denotes t b n (cond p (simple (tree.terminal t n)) (cond q (cond r (enumeration (declaration b n)) (cond s (denoted_in f t b u) other)) other))
      by true q r s e i j k more = a_simple_type e
      by false false r s e i j k more = no_type e i
      by false true true s e i j k more = an_enumeration e i j
      by false true false false e i j k more = a_select e i k j
      by false true false true e i j k more = a_renaming e i k j (more (falls n e i j))

-- ---- names that are bound to types

one_mem : (ks : List ℕ) (k : ℕ) → meaning ks ≡ one k → Memᴰ k ks
one_mem [] k e = absurd (let z : ◌≡◌ {A = ℕ} 0 1 = cc in omega arith)
one_mem (j ∷ []) k e = let q : k ≡ j = cc in Memᴰ.head q
one_mem (j ∷ l ∷ ks) k e = absurd (let z : ◌≡◌ {A = ℕ} 0 1 = cc in omega arith)

-- the kinds and roles of nodes below a type
abbrev in_type : ℕ → Bool
in_type k = mem k set.below_type

abbrev role_in_type : ℕ → ℕ → Bool
role_in_type k o = in_type k && (not (eqb k node.name) || (eqb o node.in_expression || (eqb o node.renamed_type || eqb o node.select_name)))

length_all : (xs : List ℕ) → length (keep (λ (x : ℕ). true) xs) ≡ length xs
unfolding keep
length_all [] = refl
length_all (x ∷ xs) = ap suc (length_all xs)

length_span : (i d : ℕ) → length (span i d) ≡ d
unfolding span
length_span i zero = refl
length_span i (suc d) = ap suc (length_span (suc i) d)

module _ {t : Table} (R : Read file t) (W : WellNamed t) where
  abbrev b : List ℕ
  b = bindings t

  -- a bound node means what it is bound to
  bound_means : (n k : ℕ) → n < count t → bound t b k n ≡ true → means t n ≡ one (declaration b n)
  unfolding bindings binding
  bound_means n k l h = by (means t n) refl
    where
      at : get_or b n 0 ≡ binding_of (means t n)
      at = column_at (binding t) (count t) n l

      some_binding : get_or b n 0 ≢ 0
      some_binding = eqb-false (get_or b n 0) 0 (not-true (eqb (get_or b n 0) 0) (and_fst (not (eqb (get_or b n 0) 0)) (is t k (declaration b n)) h))

      by : (m : Meaning) → means t n ≡ m → means t n ≡ one (declaration b n)
      by scope.none e = absurd (some_binding (at ∙ ap binding_of e))
      by several e = absurd (some_binding (at ∙ ap binding_of e))
      by (one j) e = let q : get_or b n 0 ≡ j + 1 = at ∙ ap binding_of e in e ∙ ap one (omega arith)

  pub bound_is : (n k : ℕ) → bound t (bindings t) k n ≡ true → is t k (declaration (bindings t) n) ≡ true
  bound_is n k h = and_snd (not (eqb (get_or b n 0) 0)) (is t k (declaration b n)) h

  -- a type is no value
  type_value : (k : ℕ) → is t node.type k ≡ true → is_value t k ≡ false
  type_value k h = rw (eqb-true (kind t k) node.type h)

  record TypeName (n : ℕ) : Type 0 where
    is_name : is t node.name n ≡ true
    role_is : is_use t n ≡ false
    among : Memᴰ (declaration b n) (declarations_of t n)

  -- a name in an expression means no type
  no_value : (n k : ℕ) → n < count t → is_use t n ≡ true → means t n ≡ one k → is t node.type k ≡ true → ⊥
  unfolding stage.expression
  no_value n k l e m y =
      let q : stage.right t n k ≡ false = rw (e, type_value k y) in
      let f : (stage.expression t n).number ≡ 11 = rw (e, m, q) in
      let g = W.expressions n (mem_upto (count t) n l) in
      omega arith

  type_name : (n : ℕ) → n < count t → bound t b node.type n ≡ true → TypeName n
  unfolding means item_meant items_of
  type_name n l h = by (is_use t n) (is t node.name n) (is t node.qualified_item n) refl refl refl (bound_means n node.type l h)
    where
      y : is t node.type (declaration b n) ≡ true
      y = bound_is n node.type h

      item_type : (m : Meaning) → item_meant t (symbol t n) m ≡ one (declaration b n) → ⊥
      item_type scope.none e = let z : ◌≡◌ {A = ℕ} 0 1 = cc in omega arith
      item_type several e = let z : ◌≡◌ {A = ℕ} 0 1 = cc in omega arith
      item_type (one j) e =
          let r = (keep_mem (λ k. eqb (symbol t k) (symbol t n) && (is t node.enumeration_item k && eqb (owner t k) j)) (nodes t) (one_mem (items_of t j (symbol t n)) (declaration b n) e)).1 in
          let i = and_fst (is t node.enumeration_item (declaration b n)) (eqb (owner t (declaration b n)) j) (and_snd (eqb (symbol t (declaration b n)) (symbol t n)) _ r) in
          let p = eqb-true (kind t (declaration b n)) node.enumeration_item i in
          let q = eqb-true (kind t (declaration b n)) node.type y in
          omega arith

      by :
          (p q r : Bool) → is_use t n ≡ p → is t node.name n ≡ q → is t node.qualified_item n ≡ r →
          means t n ≡ one (declaration b n) → TypeName n
      by true q r e i j m = absurd (no_value n (declaration b n) l e m y)
      by false true r e i j m = record { is_name = i; role_is = e; among = one_mem (declarations_of t n) (declaration b n) (rw (e, i) at m) }
      by false false true e i j m = absurd (item_type (type_meant t n) (rw (e, i, j) at m))
      by false false false e i j m = absurd (let z : ◌≡◌ {A = ℕ} 0 1 = let c : scope.none ≡ one (declaration b n) = rw (e, i, j) at m in cc in omega arith)

  -- what is bound to a type is a name
  pub bound_name : (n : ℕ) → n < count t → bound t (bindings t) node.type n ≡ true → is t node.name n ≡ true
  bound_name n l h = (type_name n l h).is_name

  -- ---- a renaming is an edge

  below_count : (d k : ℕ) → is t k d ≡ true → k ≢ 0 → d < count t
  below_count d k h z =
      ⊎_elim (λ (g : count t ≤ d). absurd (z (sym (eqb-true (kind t d) k h) ∙ get_or-eq_default t.kinds 0 g))) (λ g. g) (le_or (count t) d)

  pub type_below : (d : ℕ) → is t node.type d ≡ true → d < count t
  type_below d h = below_count d node.type h (λ (z : ◌≡◌ {A = ℕ} 18 0). omega arith)

  -- the nodes of a type, by kind and role
  inside_type : (d : ℕ) → is t node.type d ≡ true → (n : ℕ) → first t d ≤ n → n < d → role_in_type (kind t n) (role t n) ≡ true
  unfolding all_below every mem
  inside_type d h n u v =
      all_pass_below R in_type role_in_type (λ k o i. and_fst (in_type k) _ i) refl d (type_below d h) (rw (eqb-true (kind t d) node.type h) refl) n u v

  -- they belong to it
  type_owns : (d : ℕ) → is t node.type d ≡ true → (n : ℕ) → first t d ≤ n → n < d → owner t n ≡ d
  unfolding owner mem disjoint
  type_owns d h n u v =
      first_of (is_declaration t) (count t) n d (omega arith) (type_below d h) (rw (eqb-true (kind t d) node.type h))
      (λ j lo hi. undeclared t j set.below_type refl (and_fst (in_type (kind t j)) _ (inside_type d h j (omega arith) hi)))

  pub renaming_edge :
      (d : ℕ) → is t node.type d ≡ true → bound t (bindings t) node.type (first t d) ≡ true →
      Joins (type_edges t) d (declaration (bindings t) (first t d))
  unfolding type_edges renaming_edges
  renaming_edge d h i =
      let l = type_below d h in
      let s = (formed_rows R).some d l in
      let n = type_name (first t d) (omega arith) i in
      let u : first t d < d = first_under n s in
      let o : owner t (first t d) ≡ d = type_owns d h (first t d) (omega arith) u in
      Memᴰ.append_left (super_edges t)
      (mem_flat (λ k. map (edge (owner t k)) (declarations_of t k)) (keep (λ k. is_name_in t node.renamed_type k || is_name_in t node.select_name k) (nodes t))
      (mem_keep (λ k. is_name_in t node.renamed_type k || is_name_in t node.select_name k) (nodes t) (mem_upto (count t) (first t d) (omega arith))
      (by (first t d) n.is_name n.role_is (inside_type d h (first t d) (omega arith) u)))
      (subst (λ (a : ℕ). Memᴰ (edge d (declaration b (first t d))) (map (edge a) (declarations_of t (first t d)))) (sym o) (Memᴰ.map (edge d) n.among)))
    where
      first_under : TypeName (first t d) → 1 ≤ size t d → first t d < d
      first_under n s =
          ⊎_elim
          (λ (g : d ≤ first t d).
          let q : first t d ≡ d = omega arith in
          let x = eqb-true (kind t (first t d)) node.name n.is_name in
          let y = eqb-true (kind t d) node.type h in
          let z = ap (kind t) q in
          absurd (omega arith))
          (λ g. g) (le_or d (first t d))

      by :
          (m : ℕ) → is t node.name m ≡ true → is_use t m ≡ false → role_in_type (kind t m) (role t m) ≡ true →
          is_name_in t node.renamed_type m || is_name_in t node.select_name m ≡ true
      by m x y z = rw x (other_role (role t m) (rw x at y) (and_snd (in_type (kind t m)) _ z))
        where
          other_role :
              (o : ℕ) → eqb o node.in_expression ≡ false → not (eqb (kind t m) node.name) || (eqb o node.in_expression || (eqb o node.renamed_type || eqb o node.select_name)) ≡ true →
              eqb o node.renamed_type || eqb o node.select_name ≡ true
          other_role o e f = rw (x, e) at f

  -- ---- and so lowers the number of types that are reached

  no_cycle : (d : ℕ) → is t node.type d ≡ true → Reaches (Joins (type_edges t)) d d → ⊥
  unfolding cyclic
  no_cycle d h r =
      let e : is_declaration t d ≡ true = rw (eqb-true (kind t d) node.type h) in
      let f : (cyclic t (is_declaration t) (type_edges t) d).number ≡ 13 = rw (e, (reaches_iff (type_edges t) d d).1 r) in
      let g = W.type_cycles d (mem_upto (count t) d (type_below d h)) in
      omega arith

  abbrev types : List ℕ
  types = keep (is t node.type) (nodes t)

  abbrev reached : ℕ → ℕ
  reached d = length (keep (reaches (type_edges t) d) types)

  abbrev rank : ℕ → ℕ
  rank n = cond (bound t b node.type n) (suc (reached (declaration b n))) 0

  type_mem : (d : ℕ) → is t node.type d ≡ true → Memᴰ d types
  type_mem d h = mem_keep (is t node.type) (nodes t) (mem_upto (count t) d (type_below d h)) h

  itself : (d : ℕ) → is t node.type d ≡ true → reaches (type_edges t) d d ≡ false
  itself d h = untrue (reaches (type_edges t) d d) (λ r. no_cycle d h ((reaches_iff (type_edges t) d d).0 r))

  falls : (n : ℕ) → bound t b node.type n ≡ true → rank (first t (declaration b n)) < rank n
  falls n i = rw i (by (bound t b node.type u) refl)
    where
      d : ℕ
      d = declaration b n

      u : ℕ
      u = first t d

      by : (p : Bool) → bound t b node.type u ≡ p → cond p (suc (reached (declaration b u))) 0 < suc (reached d)
      by false j = omega arith
      by true j =
          let e = renaming_edge d (bound_is n node.type i) j in
          let c = bound_is u node.type j in
          let l =
          keep_lt (reaches (type_edges t) (declaration b u)) (reaches (type_edges t) d) types
          (λ x m h. (reaches_iff (type_edges t) d x).1 (onward e ((reaches_iff (type_edges t) (declaration b u) x).0 h)))
          (type_mem (declaration b u) c) (itself (declaration b u) c) ((reaches_iff (type_edges t) d (declaration b u)).1 (direct e))
          in
          omega arith

  few : (n : ℕ) → n < count t → is t node.type n ≡ false → rank n < count t
  few n l h = by (bound t b node.type n) refl
    where
      fewer : length types < count t
      fewer =
          let k = keep_lt (is t node.type) (λ x. true) (nodes t) (λ x m e. refl) (mem_upto (count t) n l) h refl in
          let a = length_all (nodes t) in
          let c = length_span 0 (count t) in
          omega arith

      by : (p : Bool) → bound t b node.type n ≡ p → cond p (suc (reached (declaration b n))) 0 < count t
      by false j = omega arith
      by true j =
          let c = bound_is n node.type j in
          let k = keep_lt (reaches (type_edges t) (declaration b n)) (λ x. true) types (λ x m e. refl) (type_mem (declaration b n) c) (itself (declaration b n) c) refl in
          let a = length_all types in
          omega (arith, fewer)

  -- THE DECLARED TYPE at a node, other than a type itself, is the one that the rules say.
  pub denoted_is : (n : ℕ) → n < count t → is t node.type n ≡ false → Denotes t (bindings t) n (denoted t (bindings t) n)
  denoted_is n l h = enough t b rank (λ n e i j. falls n i) (count t) n (few n l h)

  -- and no other is
  pub denoted_iff : (n : ℕ) → n < count t → is t node.type n ≡ false → (d : Declared) → Denotes t (bindings t) n d ↔ (d ≡ denoted t (bindings t) n)
  denoted_iff n l h d = (λ x. denotes_once x (denoted_is n l h), λ q. rw q (denoted_is n l h))

  -- so it goes by what the type at hand denotes, without a number of turns
  abbrev turned : ℕ → Declared
  turned n =
      cond (is t node.simple_type n) (simple (tree.terminal t n))
      (cond (bound t b node.type n)
      (cond (is t node.enumeration_item (first t (declaration b n))) (enumeration (declaration b n))
      (cond (renames t (declaration b n)) (denoted t b (first t (declaration b n))) other)) other)

  -- what a type that renames begins with is no type
  pub base_known : (d : ℕ) → is t node.type d ≡ true → renames t d ≡ true → (first t d < count t) × (is t node.type (first t d) ≡ false)
  unfolding mem
  base_known d h r =
      let l = type_below d h in
      let s = (formed_rows R).some d l in
      let z = eqb-true (tree.token t (first t d)) (tree.token t d + 2) r in
      let u : first t d < d =
      ⊎_elim (λ (g : d ≤ first t d). let q : first t d ≡ d = omega arith in let w = ap (tree.token t) q in absurd (omega arith)) (λ g. g) (le_or d (first t d)) in
      let k = and_fst (in_type (kind t (first t d))) _ (inside_type d h (first t d) (omega arith) u) in
      (omega arith, untrue (is t node.type (first t d)) (λ e. false≢true (rw (eqb-true (kind t (first t d)) node.type e) at k)))

  pub denoted_step : (n : ℕ) → n < count t → is t node.type n ≡ false → denoted t (bindings t) n ≡ turned n
  denoted_step n l h =
      denotes_once (denoted_is n l h)
      (by (is t node.simple_type n) (bound t b node.type n) (is t node.enumeration_item u) (renames t (declaration b n)) refl refl refl refl)
    where
      u : ℕ
      u = first t (declaration b n)

      by :
          (p q r s : Bool) → is t node.simple_type n ≡ p → bound t b node.type n ≡ q → is t node.enumeration_item u ≡ r → renames t (declaration b n) ≡ s →
          Denotes t b n (cond p (simple (tree.terminal t n)) (cond q (cond r (enumeration (declaration b n)) (cond s (denoted t b u) other)) other))
      by true q r s e i j k = a_simple_type e
      by false false r s e i j k = no_type e i
      by false true true s e i j k = an_enumeration e i j
      by false true false false e i j k = a_select e i k j
      by false true false true e i j k =
          let w = base_known (declaration b n) (bound_is n node.type i) k in
          a_renaming e i k j (denoted_is u w.0 w.1)
