-- The answer of a node, by what its row and the columns hold.
use mathlib.Core.Path.{◌≡◌, refl, sym, ap, ◌∙◌}
use mathlib.Core.Bool.{Bool, true, false, cond, ◌&&◌}
use mathlib.Core.Option.{Option, none, some}
use mathlib.Core.List.{List}
use Prim.Native.Nat.{ℕ, ◌-◌}
use borrow.Author.Tests.{ne_eqb}
use lib.Dec.{eqb}
use lib.IntN.{pos}
use lib.ListN.{get_or}
use Rattle.express.specs.Tokens.Lexis.{integer_value, binary_bits, string_value}
use Rattle.express.specs.Tokens.Terminal.{the}
use Rattle.express.specs.Tokens.Terminal as word
use Rattle.express.specs.Syntax.NodeKind as node
use Rattle.express.specs.Syntax.Tree.{Table, kind, terminal, last, left, upper, lower, middle, low}
use Rattle.express.specs.Semantics.Answer.{Logical, Answer, indeterminate, integer, logical, binary, item, string}
use Rattle.express.specs.Semantics.Declared.{Declared, declaration, denoted, declared_type}
use Rattle.express.specs.Semantics.Shape.{Operator, unevaluated, text, logical_of, operator_of, sign_of, bound_of, evaluated, name_shape_in, shape_in}
use Rattle.express.specs.Semantics.Shape as shape
use Rattle.express.specs.Semantics.Operate.{applied, between}
use Rattle.express.specs.Semantics.Evaluate.{held, answer_in}
use Rattle.node_answers.specs.Operators.{combined_by}
use Rattle.node_answers.specs.NodeAnswer.{leaf_answer, Plain}

module _ (t e : Table) (c : List ℕ) (f g : ℕ → Answer) (n : ℕ) where
  abbrev Here : Answer → Type 0
  Here x = x ≡ answer_in e f g n (shape_in t e c n)

  pub at_sign : kind e n ≡ node.unary → Here (applied (sign_of (terminal e n)) (f (last n)))
  unfolding shape_in
  at_sign h = rw h

  combined_is : (o : Option Operator) → combined_by o (f (left e n)) (f (last n)) ≡ answer_in e f g n (evaluated o)
  combined_is none = refl
  combined_is (some o) = refl

  pub at_operator : kind e n ≡ node.two_operand → Here (combined_by (operator_of (terminal e n)) (f (left e n)) (f (last n)))
  unfolding shape_in
  at_operator h = rw h (combined_is (operator_of (terminal e n)))

  pub at_interval :
      kind e n ≡ node.interval →
      Here (between (bound_of (terminal e (lower e n))) (bound_of (terminal e (upper e n))) (f (low e n)) (f (middle e n)) (f (last n)))
  unfolding shape_in
  at_interval h = rw h

  pub at_constant : kind e n ≡ node.constant → Here (held (declared_type e c n) (f (last n)))
  unfolding shape_in
  at_constant h = rw h

  pub at_name : kind e n ≡ node.name → Here (answer_in e f g n (name_shape_in t e c n))
  unfolding shape_in
  at_name h = rw h

  pub at_item : kind e n ≡ node.qualified_item → Here (answer_in e f g n (name_shape_in t e c n))
  unfolding shape_in
  at_item h = rw h

  -- a leaf
  leaf_by :
      (v : ℕ) (s : List Bool) (l : Logical) (u : List ℕ) (d : Declared) (x y z q w o p : Bool) →
      cond x (integer (pos v)) (cond y (binary s) (cond z (logical l) (cond q (string u) indeterminate)))
      ≡ answer_in e f g n
      (cond x (shape.integer_literal v)
      (cond y (shape.binary_literal s)
      (cond z (shape.logical_literal l)
      (cond q (shape.string_literal u) (cond w shape.question (cond o shape.interval_operator (cond p (shape.type d) unevaluated)))))))
  leaf_by v s l u d true y z q w o p = refl
  leaf_by v s l u d false true z q w o p = refl
  leaf_by v s l u d false false true q w o p = refl
  leaf_by v s l u d false false false true w o p = refl
  leaf_by v s l u d false false false false true o p = refl
  leaf_by v s l u d false false false false false true p = refl
  leaf_by v s l u d false false false false false false true = refl
  leaf_by v s l u d false false false false false false false = refl

  pub at_leaf : Plain (kind e n) → (kind e n ≡ node.constant → ⊥) → Here (leaf_answer (kind e n) (terminal e n) (text e n))
  unfolding shape_in
  at_leaf p q =
      rw (
        ne_eqb (kind e n) node.name p.no_name,
        ne_eqb (kind e n) node.qualified_item p.no_item,
        ne_eqb (kind e n) node.unary p.no_unary,
        ne_eqb (kind e n) node.two_operand p.no_two,
        ne_eqb (kind e n) node.interval p.no_interval,
        ne_eqb (kind e n) node.constant q,
      )
      (leaf_by (integer_value (text e n)) (binary_bits (text e n)) (logical_of (terminal e n)) (string_value (text e n)) (denoted e c n)
      (eqb (kind e n) node.integer_literal) (eqb (kind e n) node.binary_literal) (eqb (kind e n) node.logical_literal)
      (eqb (kind e n) node.other_literal && eqb (terminal e n) (the word.string)) (eqb (kind e n) node.question)
      (eqb (kind e n) node.interval_operator) (eqb (kind e n) node.simple_type))

  -- ---- names: of a node that is bound to x - 1
  module _ (x : ℕ) (q : get_or c n 0 ≡ x) where
    abbrev AtName : Answer → Type 0
    AtName y = y ≡ answer_in e f g n (name_shape_in t e c n)

    pub unbound : x ≡ 0 → AtName indeterminate
    unbound z = let i : get_or c n 0 ≡ 0 = q ∙ z in rw i

    module _ (z : x ≡ 0 → ⊥) where
      target : declaration c n ≡ x - 1
      target = ap (λ (y : ℕ). y - 1) q

      some_binding : eqb (get_or c n 0) 0 ≡ false
      some_binding = ne_eqb _ _ (λ h. z (sym q ∙ h))

      pub bound_item : kind t (x - 1) ≡ node.enumeration_item → AtName (item (x - 1))
      bound_item h = let i = ap (kind t) target ∙ h in rw (← target, some_binding, i)

      pub bound_constant : kind t (x - 1) ≡ node.constant → AtName (g (x - 1))
      bound_constant h = let i = ap (kind t) target ∙ h in rw (← target, some_binding, i)

      pub bound_other : (kind t (x - 1) ≡ node.enumeration_item → ⊥) → (kind t (x - 1) ≡ node.constant → ⊥) → AtName indeterminate
      bound_other u v =
          let a : eqb (kind t (declaration c n)) node.enumeration_item ≡ false = ne_eqb _ _ (λ h. u (sym (ap (kind t) target) ∙ h)) in
          let b : eqb (kind t (declaration c n)) node.constant ≡ false = ne_eqb _ _ (λ h. v (sym (ap (kind t) target) ∙ h)) in
          rw (some_binding, a, b)
