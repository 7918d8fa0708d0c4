-- A table that holds the rows of a derived text is well formed: each node has the children that its kind has, where they should be.
use mathlib.Core.Bool.{true}
use mathlib.Core.List.{List, [], ◌∷◌}
use mathlib.Core.Path.{◌≡◌, refl, sym, ap, ◌∙◌, subst}
use Prim.Native.Nat.{ℕ, suc, ◌+◌, ◌-◌, ◌≤◌, ◌<◌}
use native.Mathlib.Omega.{arith}
use lib.Dec.{eqb}
use lib.ListN.{length, get_or, get_or-map, length-map}
use borrow.Author.Tests.{eqb-true}
use Rattle.ebnf.specs.Rows.{Row}
use Rattle.ebnf.specs.Set.{mem}
use Rattle.ebnf.proofs.Sorts.{Sort, of_sorts, every, every_of}
use Rattle.ebnf.proofs.PostOrder.{no_row, row_at, size_at, Node, size_fits}
use Rattle.ebnf.proofs.Children.{ones, Chain, children_chain, childless}
use Rattle.express.specs.Syntax.Tree.{Table, count, kind, token, size, role, last, before, first}
use Rattle.express.specs.Syntax.Grammar.{Nonterminal}
use Rattle.express.specs.Syntax.Syntax.{Read}
use Rattle.express.proofs.Syntax.Nodes.{expressions, operators, bases, kinds, each_row, all_below, childless_kind}
use Rattle.express.specs.Syntax.Tree as tree
use Rattle.express.specs.Syntax.NodeKind as node
use Rattle.express.proofs.Syntax.Formed as form
use Rattle.express.proofs.Syntax.KindSets as set

-- From node p on, going from a child to the one before it: nodes of these sorts, the first of which has its first node at a.
abbrev pub Children : Table → ℕ → ℕ → List Sort → List (List Sort) → Type 0
Children t a p S [] = (of_sorts (kind t p) (role t p) S ≡ true) × (suc p ≡ a + size t p)
Children t a p S (S' ∷ Ss) = (of_sorts (kind t p) (role t p) S ≡ true) × (a + size t p ≤ p) × Children t a (before t p) S' Ss

-- ---- sums of sizes

one_sum : (n s s₁ : ℕ) → 1 ≤ n → s ≤ n + 1 → suc (n - 1) ≡ (n + 1 - s) + s₁ → s ≡ s₁ + 1
one_sum n s s₁ u v e = omega arith

two_sum : (n s s₁ s₂ : ℕ) → 1 ≤ n → s ≤ n + 1 → (n + 1 - s) + s₁ ≤ n - 1 → suc ((n - 1) - s₁) ≡ (n + 1 - s) + s₂ → s ≡ s₂ + s₁ + 1
two_sum n s s₁ s₂ u v w e = omega arith

five_sum : (n s s₁ s₂ s₃ s₄ s₅ p₂ p₃ p₄ p₅ : ℕ) → 1 ≤ n → s ≤ n + 1 →
    (n + 1 - s) + s₁ ≤ n - 1 → p₂ ≡ (n - 1) - s₁ → (n + 1 - s) + s₂ ≤ p₂ → p₃ ≡ p₂ - s₂ → (n + 1 - s) + s₃ ≤ p₃ → p₄ ≡ p₃ - s₃ →
    (n + 1 - s) + s₄ ≤ p₄ → p₅ ≡ p₄ - s₄ → suc p₅ ≡ (n + 1 - s) + s₅ → s₂ ≡ 1 → s₄ ≡ 1 → s ≡ s₅ + 1 + s₃ + 1 + s₁ + 1
five_sum n s s₁ s₂ s₃ s₄ s₅ p₂ p₃ p₄ p₅ u v a b c d e f g h i j k = omega arith

-- ---- kinds without children

leaf_kind : (k : ℕ) → mem k set.leaf_kinds ≡ true → kinds.children k ≡ []
unfolding all_below mem
leaf_kind k h = childless_kind (λ j. mem j set.leaf_kinds) refl k h

module _ {x : Nonterminal} {t : Table} (d : Read x t) where
  pub kind_is : (n : ℕ) → kind t n ≡ (row_at d.rows n).kind
  kind_is n = ap (λ (c : List ℕ). get_or c n 0) d.kinds ∙ get_or-map (λ (r : Row). r.kind) d.rows n no_row

  pub role_is : (n : ℕ) → role t n ≡ (row_at d.rows n).role
  role_is n = ap (λ (c : List ℕ). get_or c n 0) d.roles ∙ get_or-map (λ (r : Row). r.role) d.rows n no_row

  pub size_is : (n : ℕ) → size t n ≡ (row_at d.rows n).size
  size_is n = ap (λ (c : List ℕ). get_or c n 0) d.sizes ∙ get_or-map (λ (r : Row). r.size) d.rows n no_row

  pub token_is : (n : ℕ) → token t n ≡ (row_at d.rows n).token
  token_is n = ap (λ (c : List ℕ). get_or c n 0) d.tokens ∙ get_or-map (λ (r : Row). r.token) d.rows n no_row

  pub count_is : count t ≡ length d.rows
  count_is = ap length d.kinds ∙ length-map d.rows _

  pub node_at : (n : ℕ) → n < count t → Node kinds t.terminals d.rows n
  node_at n l = each_row x t.terminals d.rows d.parses n (rw count_is at l)

  in_table : (a p : ℕ) (S : List Sort) (Ss : List (List Sort)) → Chain d.rows a p S Ss → Children t a p S Ss
  in_table a p S [] c = rw (kind_is p, role_is p, size_is p) c
  in_table a p S (S' ∷ Ss) c = rw (kind_is p, role_is p, size_is p) (c.0, c.1, in_table a (p - size_at d.rows p) S' Ss c.2)

  -- ---- each node

  pub sized : (n : ℕ) → n < count t → (1 ≤ size t n) × (size t n ≤ n + 1)
  sized n l =
      let s = size_fits kinds t.terminals d.rows n (node_at n l) in
      let u = s.0 in
      let v = s.1 in
      let e = size_is n in
      (omega (arith, u, e), omega (arith, v, e))

  -- THE CHILDREN of a node whose kind has a fixed number of them
  pub children : (n k : ℕ) (S : List Sort) (Ss : List (List Sort)) → n < count t → kind t n ≡ k → kinds.children k ≡ ones S Ss →
      (1 ≤ n) × Children t (first t n) (last n) S Ss
  children n k S Ss l e q =
      let c = children_chain kinds t.terminals d.rows n k S Ss (node_at n l) (sym (kind_is n) ∙ e) q in
      let z : suc n - size_at d.rows n ≡ first t n = let s = size_is n in omega (arith, s) in
      (c.0, in_table _ _ S Ss (subst (λ (a : ℕ). Chain d.rows a (n - 1) S Ss) z c.1))

  -- A NODE WITHOUT CHILDREN is its whole subtree
  pub alone : (n k : ℕ) → n < count t → kind t n ≡ k → kinds.children k ≡ [] → size t n ≡ 1
  alone n k l e q = size_is n ∙ childless kinds t.terminals d.rows n k (node_at n l) (sym (kind_is n) ∙ e) q

  -- ---- the form that typing and evaluation go by

  is_expression : (p : ℕ) → of_sorts (kind t p) (role t p) expressions ≡ true → mem (kind t p) set.expression_kinds ≡ true
  unfolding every mem
  is_expression p h = every_of (λ k o. mem k set.expression_kinds) expressions _ _ refl h

  is_operator : (p : ℕ) → of_sorts (kind t p) (role t p) operators ≡ true → kind t p ≡ node.interval_operator
  unfolding every
  is_operator p h = eqb-true _ _ (every_of (λ k o. eqb k node.interval_operator) operators (kind t p) (role t p) refl h)

  is_base : (p : ℕ) → of_sorts (kind t p) (role t p) bases ≡ true → mem (kind t p) set.base_kinds ≡ true
  unfolding every mem
  is_base p h = every_of (λ k o. mem k set.base_kinds) bases (kind t p) (role t p) refl h

  leaf : (n : ℕ) → n < count t → mem (kind t n) set.leaf_kinds ≡ true → size t n ≡ 1
  leaf n l h = alone n (kind t n) l refl (leaf_kind (kind t n) h)

  unary : (n : ℕ) → n < count t → kind t n ≡ node.unary → form.One t n
  unary n l e =
      let c = children n node.unary expressions [] l e refl in
      record { operand = is_expression _ c.1.0; all = one_sum n (size t n) (size t (last n)) c.0 (sized n l).1 c.1.1 }

  operator : (n : ℕ) → n < count t → kind t n ≡ node.two_operand → form.Two t n
  operator n l e =
      let c = children n node.two_operand expressions (expressions ∷ []) l e refl in
      let b = c.1.2 in
      record {
        left_operand = is_expression _ b.0;
        right_operand = is_expression _ c.1.0;
        all = two_sum n (size t n) (size t (last n)) (size t (tree.left t n)) c.0 (sized n l).1 c.1.1 b.1;
      }

  constant_pair : (n : ℕ) → n < count t → kind t n ≡ node.constant → form.Pair t n
  constant_pair n l e =
      let c = children n node.constant expressions (bases ∷ []) l e refl in
      let b = c.1.2 in
      let u : tree.left t n < count t = let v = c.0 in omega (arith, l, v) in
      let s = leaf (tree.left t n) u (set.base_leaf (kind t (tree.left t n)) (is_base _ b.0)) in
      let z = two_sum n (size t n) (size t (last n)) (size t (tree.left t n)) c.0 (sized n l).1 c.1.1 b.1 in
      record { base = is_base _ b.0; value = is_expression _ c.1.0; all = rw s at z }

  interval_five : (n : ℕ) → n < count t → kind t n ≡ node.interval → form.Five t n
  unfolding mem
  interval_five n l e =
      let c = children n node.interval expressions (operators ∷ expressions ∷ operators ∷ expressions ∷ []) l e refl in
      let c₂ = c.1.2 in
      let c₃ = c₂.2 in
      let c₄ = c₃.2 in
      let c₅ = c₄.2 in
      let v = c.0 in
      let k₂ = is_operator _ c₂.0 in
      let k₄ = is_operator _ c₄.0 in
      let s₂ = leaf (tree.upper t n) (omega (arith, l, v)) (rw k₂ refl) in
      let s₄ = leaf (tree.lower t n) (omega (arith, l, v)) (rw k₄ refl) in
      record {
        low_operand = is_expression _ c₅.0;
        lower_operator = k₄;
        item = is_expression _ c₃.0;
        upper_operator = k₂;
        high_operand = is_expression _ c.1.0;
        all = five_sum n (size t n) _ _ _ _ _ _ _ _ _ v (sized n l).1 c.1.1 refl c₂.1 refl c₃.1 refl c₄.1 refl c₅.1 s₂ s₄;
      }

  -- THE TABLE IS WELL FORMED
  pub formed_rows : form.Formed t
  formed_rows =
      record {
        some = λ n l. (sized n l).0;
        inside = λ n l. (sized n l).1;
        leaf = leaf;
        unary = unary;
        operator = operator;
        interval = interval_five;
        constant = constant_pair;
      }
