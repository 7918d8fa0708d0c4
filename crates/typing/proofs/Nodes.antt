-- What is found at a node, by what its row and the columns hold.
use mathlib.Core.Path.{◌≡◌, refl, sym, ap, ◌∙◌}
use mathlib.Core.Logic.{⊎_elim}
use mathlib.Core.Bool.{Bool, true, false, cond, ◌&&◌}
use mathlib.Core.Option.{Option, none, some}
use mathlib.Core.List.{List}
use Prim.Native.Nat.{ℕ, zero, suc, ◌-◌, ◌≤◌, ◌<◌}
use native.Mathlib.Omega.{arith}
use borrow.Author.Tests.{ne_eqb}
use lib.Dec.{eqb}
use lib.ListN.{get_or, get_or-eq_default, get_or-map}
use Rattle.express.specs.Tokens.Lexis.{integer_value, binary_bits, string_value}
use Rattle.express.specs.Syntax.NodeKind as node
use Rattle.express.specs.Syntax.Tree.{Table, count, kind, terminal, owner, last, left, middle, low}
use Rattle.express.specs.Semantics.Declared.{Declared, other, declaration, bound, simple, denoted_in, denoted, declared_type}
use Rattle.express.specs.Semantics.DeclaredColumn.{declared_number}
use Rattle.express.specs.Semantics.Shape.{Operator, plus, arithmetic, relation, connective, Sign, positive, negative, unevaluated}
use Rattle.express.specs.Semantics.Shape.{operator_of, sign_of, evaluated, name_shape_in, shape_in}
use Rattle.express.specs.Semantics.Shape as shape
use Rattle.express.specs.Semantics.Answer.{Logical}
use Rattle.express.specs.Semantics.Operate.{Kind, integers, logicals, binaries, strings, items, undetermined, untyped, comparable}
use Rattle.express.specs.Semantics.Kind.{of_number, common, kind_of_type, Finding, of_kind, fault, if_fits, if_evaluated, finding_in, kind_at}
use Rattle.express.proofs.Semantics.KindNumbers.{number_back}
use Rattle.relations.proofs.Select.{le_or}
use Rattle.kind_rules.specs.Findings.{class_of, class_of_sign, applied, leaf_found}
use Rattle.typing.specs.Typings.{kinds_of, Names, Plain}

-- a node of some kind is one of the table
pub known : (e : Table) (n k : ℕ) → kind e n ≡ suc k → n < count e
known e n k h = ⊎_elim (λ (g : count e ≤ n). absurd (let z = get_or-eq_default e.kinds 0 g in omega arith)) (λ g. g) (le_or (count e) n)

-- what a lent column holds at a node
pub kind_held : (scratch : List ℕ) (n : ℕ) → kind_at (kinds_of scratch) n ≡ of_number (get_or scratch n 0)
kind_held scratch n = get_or-map of_number scratch n 0

-- ---- operators

pub applied_sign : (t : Table) (b : List ℕ) (e : Table) (k : ℕ → Kind) (n : ℕ) (o : Sign) → applied (class_of_sign o) (k (last n)) ≡ finding_in t b e k n (shape.unary o)
applied_sign t b e k n positive = refl
applied_sign t b e k n negative = refl
applied_sign t b e k n shape.not = refl

pub applied_operator :
    (t : Table) (b : List ℕ) (e : Table) (k : ℕ → Kind) (n : ℕ) (o : Option Operator) →
    applied (class_of o) (common (k (left e n)) (k (last n))) ≡ finding_in t b e k n (evaluated o)
applied_operator t b e k n none = refl
applied_operator t b e k n (some plus) = refl
applied_operator t b e k n (some (arithmetic o)) = refl
applied_operator t b e k n (some (relation o)) = refl
applied_operator t b e k n (some (connective o)) = refl

module _ (t : Table) (b : List ℕ) (e : Table) (c : List ℕ) (k : ℕ → Kind) (n : ℕ) where
  abbrev Here : Finding → Type 0
  Here x = x ≡ finding_in t b e k n (shape_in t e c n)

  pub at_sign : kind e n ≡ node.unary → Here (applied (class_of_sign (sign_of (terminal e n))) (k (last n)))
  unfolding shape_in
  at_sign h = rw h (applied_sign t b e k n (sign_of (terminal e n)))

  pub at_operator : kind e n ≡ node.two_operand → Here (applied (class_of (operator_of (terminal e n))) (common (k (left e n)) (k (last n))))
  unfolding shape_in
  at_operator h = rw h (applied_operator t b e k n (operator_of (terminal e n)))

  pub at_interval :
      kind e n ≡ node.interval →
      Here (if_fits (comparable (common (k (low e n)) (k (middle e n))) && comparable (common (k (middle e n)) (k (last n)))) logicals)
  unfolding shape_in
  at_interval h = rw h

  simple_at : (f : ℕ) → kind e n ≡ node.simple_type → denoted_in (suc f) e c n ≡ simple (terminal e n)
  unfolding denoted_in
  simple_at f h = rw h

  denoted_simple : kind e n ≡ node.simple_type → denoted e c n ≡ simple (terminal e n)
  denoted_simple h = by (count e) (known e n 12 h)
    where
      by : (m : ℕ) → n < m → denoted_in m e c n ≡ simple (terminal e n)
      by zero l = absurd (omega arith)
      by (suc m) l = simple_at m h

  pub at_simple_type : kind e n ≡ node.simple_type → Here (if_evaluated (simple (terminal e n)) untyped)
  unfolding shape_in
  at_simple_type h = rw (h, denoted_simple h)

  pub at_constant : kind e n ≡ node.constant → Here (if_fits (comparable (common (kind_of_type (declared_type e c n)) (k (last n)))) (kind_of_type (declared_type e c n)))
  unfolding shape_in
  at_constant h = rw h

  pub at_name : kind e n ≡ node.name → Here (finding_in t b e k n (name_shape_in t e c n))
  unfolding shape_in
  at_name h = rw h

  pub at_item : kind e n ≡ node.qualified_item → Here (finding_in t b e k n (name_shape_in t e c n))
  unfolding shape_in
  at_item h = rw h

  -- what has neither operands nor a name
  leaf_by :
      (v : ℕ) (s : List Bool) (l : Logical) (r : List ℕ) (x y z u w o : Bool) →
      cond x (of_kind integers)
      (cond y (of_kind binaries) (cond z (of_kind logicals) (cond u (of_kind strings) (cond w (of_kind undetermined) (cond o (of_kind untyped) (fault 14))))))
      ≡ finding_in t b e k n
      (cond x (shape.integer_literal v)
      (cond y (shape.binary_literal s)
      (cond z (shape.logical_literal l) (cond u (shape.string_literal r) (cond w shape.question (cond o shape.interval_operator unevaluated))))))
  leaf_by v s l r true y z u w o = refl
  leaf_by v s l r false true z u w o = refl
  leaf_by v s l r false false true u w o = refl
  leaf_by v s l r false false false true w o = refl
  leaf_by v s l r false false false false true o = refl
  leaf_by v s l r false false false false false true = refl
  leaf_by v s l r false false false false false false = refl

  pub at_leaf :
      Plain (kind e n) → (kind e n ≡ node.unary → ⊥) → (kind e n ≡ node.two_operand → ⊥) → (kind e n ≡ node.interval → ⊥) →
      (kind e n ≡ node.simple_type → ⊥) → Here (leaf_found (kind e n) (terminal e n))
  unfolding shape_in
  at_leaf p u o i s =
      rw (
        ne_eqb (kind e n) node.name p.no_name,
        ne_eqb (kind e n) node.qualified_item p.no_item,
        ne_eqb (kind e n) node.unary u,
        ne_eqb (kind e n) node.two_operand o,
        ne_eqb (kind e n) node.interval i,
        ne_eqb (kind e n) node.simple_type s,
        ne_eqb (kind e n) node.constant p.no_constant,
      )
      (leaf_by (integer_value (shape.text e n)) (binary_bits (shape.text e n)) (shape.logical_of (terminal e n)) (string_value (shape.text e n))
      (eqb (kind e n) node.integer_literal) (eqb (kind e n) node.binary_literal) (eqb (kind e n) node.logical_literal) (shape.is_string e n) (eqb (kind e n) node.question)
      (eqb (kind e n) node.interval_operator))

  -- ---- names

  denoted_other : (m : ℕ) → (kind e n ≡ node.simple_type → ⊥) → bound e c node.type n ≡ false → denoted_in m e c n ≡ other
  unfolding denoted_in
  denoted_other zero s h = refl
  denoted_other (suc m) s h = rw (ne_eqb (kind e n) node.simple_type s, h)

  -- of a node that is bound to x - 1
  module _ (kinds file_kinds declared : List ℕ) (N : Names t b e c kinds file_kinds declared) (l : n < count e) (s : kind e n ≡ node.simple_type → ⊥)
      (x : ℕ) (q : get_or c n 0 ≡ x) where
    abbrev AtName : Finding → Type 0
    AtName y = y ≡ finding_in t b e k n (name_shape_in t e c n)

    pub unbound : x ≡ 0 → AtName (fault 14)
    unbound z = let i : get_or c n 0 ≡ 0 = q ∙ z in let o = denoted_other (count e) s (rw i) in rw (i, o)

    module _ (z : x ≡ 0 → ⊥) where
      target : declaration c n ≡ x - 1
      target = ap (λ (y : ℕ). y - 1) q

      some_binding : eqb (get_or c n 0) 0 ≡ false
      some_binding = ne_eqb _ _ (λ h. z (sym q ∙ h))

      file_kind : kind t (declaration c n) ≡ get_or file_kinds (x - 1) 0
      file_kind = rw (target, N.file_kinds_are)

      own_kind : kind e (declaration c n) ≡ get_or kinds (x - 1) 0
      own_kind = rw (target, N.own_kinds)

      pub bound_item : get_or file_kinds (x - 1) 0 ≡ node.enumeration_item → AtName (of_kind (of_number (get_or declared (x - 1) 0)))
      bound_item h =
          let i = file_kind ∙ h in
          let o = N.file_declared.items (declaration c n) (known t (declaration c n) 13 i) i in
          rw (← target, some_binding, i, o) (ap of_kind (number_back (items (owner t (declaration c n)))))

      pub bound_constant :
          get_or file_kinds (x - 1) 0 ≡ node.constant → {y : Finding} →
          ((d : Declared) → get_or declared (x - 1) 0 ≡ declared_number d → y ≡ if_evaluated d (kind_of_type d)) → AtName y
      bound_constant h f =
          let i = file_kind ∙ h in
          let o = N.file_declared.constants (declaration c n) (known t (declaration c n) 16 i) i in
          rw (some_binding, i) (f (declared_type t b (declaration c n)) (rw (← target) o))

      module _ (u : get_or file_kinds (x - 1) 0 ≡ node.enumeration_item → ⊥) (v : get_or file_kinds (x - 1) 0 ≡ node.constant → ⊥) where
        no_item : eqb (kind t (declaration c n)) node.enumeration_item ≡ false
        no_item = ne_eqb _ _ (λ h. u (sym file_kind ∙ h))

        no_constant : eqb (kind t (declaration c n)) node.constant ≡ false
        no_constant = ne_eqb _ _ (λ h. v (sym file_kind ∙ h))

        pub bound_type :
            get_or kinds (x - 1) 0 ≡ node.type → {y : Finding} →
            ((d : Declared) → get_or declared (x - 1) 0 ≡ declared_number d → y ≡ if_evaluated d untyped) → AtName y
        bound_type h f =
            let i : kind e (declaration c n) ≡ node.type = own_kind ∙ h in
            let o = N.own_declared.types n l (rw (some_binding, i)) in
            rw (some_binding, no_item, no_constant) (f (denoted e c n) (rw (← target) o))

        pub bound_other : (get_or kinds (x - 1) 0 ≡ node.type → ⊥) → AtName (fault 14)
        bound_other h =
            let i : eqb (kind e (declaration c n)) node.type ≡ false = ne_eqb _ _ (λ j. h (sym own_kind ∙ j)) in
            let o = denoted_other (count e) s (rw (some_binding, i)) in
            rw (some_binding, no_item, no_constant, o)
