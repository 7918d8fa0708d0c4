-- The value of a node from what is told of its operands: of strings their lengths, or, where strings are compared, their bytes.
use mathlib.Core.Path.{◌≡◌, refl, sym, ap, subst, ◌∙◌}
use mathlib.Core.Logic.{⊎_elim}
use mathlib.Core.Bool.{Bool, true, false, ◌&&◌, ◌||◌}
use mathlib.Core.Option.{Option, none, some}
use mathlib.Core.List.{List}
use Prim.Native.Nat.{ℕ, ◌+◌, ◌-◌, ◌≤◌, ◌<◌}
use native.Mathlib.Omega.{arith}
use borrow.Author.Tests.{eqb-true, eq-eqb}
use lib.Dec.{eqb}
use lib.IntN.{ℤ}
use lib.ListN.{get_or}
use Rattle.relations.proofs.Select.{and_fst, and_snd, or_cases}
use Rattle.express.specs.Syntax.NodeKind as node
use Rattle.express.specs.Syntax.Tree.{Table, kind, terminal, last, left, low, middle}
use Rattle.express.specs.Semantics.Answer.{Answer}
use Rattle.express.specs.Semantics.Relation.{Relation}
use Rattle.express.specs.Semantics.Shape.{Operator, plus, arithmetic, relation, connective, Shape, integer_literal, logical_literal, binary_literal, string_literal, question}
use Rattle.express.specs.Semantics.Shape.{item, name, unary, operator, interval, interval_operator, type, constant, unevaluated, evaluated, operator_of, shape_in}
use Rattle.express.specs.Semantics.Operate.{string_in}
use Rattle.express.specs.Semantics.Evaluate.{answer_in, answer_at}
use Rattle.express.proofs.Semantics.Shapes.{Decoded, decoded_in}
use Rattle.operations.specs.Meaning.{sized}
use Rattle.operations.specs.declared.Answer as code
use Rattle.operations.proofs.Sized.{compares_strings, sized_combined, sized_applied, sized_held, sized_between, no_second}
use Rattle.node_answers.specs.Answers.{answers_in, Gives}
use Rattle.node_answers.specs.NodeAnswer.{Against}
use Rattle.node_answers.proofs.Rows.{same}
use Rattle.node_answers.proofs.Nodes.{at_operator, at_interval}
use Rattle.string_laws.specs.Leaves.{leaves}
use Rattle.string_laws.proofs.Operations.{interval_shape}
use Rattle.string_bytes.specs.Reading.{Columns, Readable}
use Rattle.string_bytes.proofs.Reading.{nodes_leaves}
use Rattle.string_relations.specs.Comparing.{Comparison, a_relation, an_interval, Operand, is_relation, relates, Compares}
use Rattle.string_relations.specs.Compared.{Compared}
use Rattle.string_relations.proofs.Relating.{clash}
use Rattle.evaluate.specs.Evaluation.{OperandOf, of_sign, left_of, right_of, low_of, item_of, high_of, value_of, Valued, Comparable, Told}
use Rattle.evaluate.proofs.NoString.{no_string, sized_none}

-- the operator of a node of that shape
operator_at : (t e : Table) (c : List ℕ) (n : ℕ) (o : Operator) → kind e n ≡ node.two_operand → shape_in t e c n ≡ operator o → operator_of (terminal e n) ≡ some o
unfolding shape_in
operator_at t e c n o k h = by (operator_of (terminal e n)) (rw k at h)
  where
    by : (p : Option Operator) → evaluated p ≡ operator o → p ≡ some o
    by none q = let z : ◌≡◌ {A = ℕ} 0 1 = cc in absurd (omega arith)
    by (some p) q = let z : p ≡ o = cc in ap some z

-- shapes that compare
relation_shape : (t e : Table) (c : List ℕ) (n : ℕ) → kind e n ≡ node.two_operand → is_relation (terminal e n) ≡ true → Comparison (shape_in t e c n)
unfolding shape_in
relation_shape t e c n h j = rw h (by (operator_of (terminal e n)) j)
  where
    by : (o : Option Operator) → relates o ≡ true → Comparison (evaluated o)
    by none q = clash q
    by (some plus) q = clash q
    by (some (arithmetic o)) q = clash q
    by (some (relation o)) q = a_relation
    by (some (connective o)) q = clash q

or_none : (p q : Bool) → (p || q) ≡ false → (p ≡ false) × (q ≡ false)
or_none true q e = clash (sym e)
or_none false q e = (refl, e)

-- ---- a node that compares no strings
module _ {t e : Table} {bindings : List ℕ} {g values : ℕ → Answer} {lo hi : ℕ} (L : Valued t e bindings g lo hi values) {vks : List ℕ} {vzs : List ℤ} {vls : List ℕ} {n : ℕ} (a : lo ≤ n)
    (b : n < hi) (B : Told vks vzs vls lo n values) where
  -- what is told of an operand
  told : {m : ℕ} → OperandOf e n m → answer_at (answers_in vks vzs vls) m ≡ sized (values m)
  told {m} o = let l = L.operands n a b m o in B.is m l.0 l.1

  module _ {terminals tokens sizes : List ℕ} (T : e.terminals ≡ terminals) (K : e.tokens ≡ tokens) (S : e.sizes ≡ sizes) {k : ℕ} (k_is : kind e n ≡ k)
      (C : Compares k terminals tokens sizes vks n false) where
    test :
        ((eqb k node.two_operand && (eqb (get_or vks (last n) 0) 5 && is_relation (terminal e n))) ≡ false) ×
        ((eqb k node.interval && eqb (get_or vks (middle e n) 0) 5) ≡ false)
    test = or_none _ _ (sym (rw (T, K) (C.is e S)))

    -- a relation whose right operand is no string
    related : (o : Relation) → kind e n ≡ node.two_operand → operator_of (terminal e n) ≡ some (relation o) → string_in (values (last n)) ≡ none
    related o h q =
        let rel : is_relation (terminal e n) ≡ true = ap relates q in
        let two : eqb k node.two_operand ≡ true = eq-eqb k node.two_operand (sym k_is ∙ h) in
        sized_none (values (last n))
        (sym (ap string_in (told (right_of h))) ∙
        no_string vks vzs vls (last n) (λ z. clash (sym test.0 ∙ rw (two, rel, eq-eqb (get_or vks (last n) 0) 5 z))))

    -- an interval whose item is none
    item_none : kind e n ≡ node.interval → string_in (values (middle e n)) ≡ none
    item_none h =
        let three : eqb k node.interval ≡ true = eq-eqb k node.interval (sym k_is ∙ h) in
        sized_none (values (middle e n))
        (sym (ap string_in (told (item_of h))) ∙
        no_string vks vzs vls (middle e n) (λ z. clash (sym test.1 ∙ rw (three, eq-eqb (get_or vks (middle e n) 0) 5 z))))

    two_operands : (o : Operator) → kind e n ≡ node.two_operand → operator_of (terminal e n) ≡ some o → compares_strings o (values (left e n)) (values (last n)) ≡ false
    two_operands plus h q = refl
    two_operands (arithmetic o) h q = refl
    two_operands (relation o) h q = no_second o (values (left e n)) (values (last n)) (related o h q)
    two_operands (connective o) h q = refl

    pub answered_value : sized (answer_in e (answer_at (answers_in vks vzs vls)) g n (shape_in t e bindings n)) ≡ sized (values n)
    answered_value = by (shape_in t e bindings n) refl (decoded_in t e bindings n) ∙ ap sized (sym (L.step n a b))
      where
        by : (s : Shape) → shape_in t e bindings n ≡ s → Decoded t e bindings n s → sized (answer_in e (answer_at (answers_in vks vzs vls)) g n s) ≡ sized (answer_in e values g n (shape_in t e bindings n))
        by (integer_literal v) q d = rw q
        by (logical_literal v) q d = rw q
        by (binary_literal v) q d = rw q
        by (string_literal v) q d = rw q
        by question q d = rw q
        by (item m) q d = rw q
        by (name m) q d = rw q
        by (unary o) q d = rw q (rw (told (of_sign d)) (sized_applied o (values (last n))))
        by (operator o) q d =
            rw q (rw (told (left_of d), told (right_of d)) (sized_combined o (values (left e n)) (values (last n)) (two_operands o d (operator_at t e bindings n o d q))))
        by (interval o p) q d =
            rw q (rw (told (low_of d), told (item_of d), told (high_of d)) (sized_between o p (values (low e n)) (values (middle e n)) (values (last n)) (item_none d)))
        by interval_operator q d = rw q
        by (type k) q d = rw q
        by (constant k) q d = rw q (rw (told (value_of d.0)) (sized_held k (values (last n))))
        by unevaluated q d = rw q

-- ---- a node that may compare strings
module _ {t e : Table} {bytes starts lengths terminals kinds tokens sizes bindings file_kinds declared : List ℕ}
    (A : Against t e bytes starts lengths terminals kinds tokens sizes bindings file_kinds declared) {g values : ℕ → Answer} {lo hi : ℕ} (L : Valued t e bindings g lo hi values)
    {row_of : List ℕ} {at : ℕ} {aks : List ℕ} {azs : List ℤ} {als room : List ℕ} (R : Comparable t e bindings g row_of at aks azs als room lo hi) {vks : List ℕ} {vzs : List ℤ}
    {vls : List ℕ} {n : ℕ} (a : lo ≤ n) (b : n < hi) (B : Told vks vzs vls lo n values) where
  columns : Columns t e bytes starts lengths terminals kinds tokens file_kinds
  columns =
      record {
        bytes_are = A.bytes_are;
        starts_are = A.starts_are;
        lengths_are = A.lengths_are;
        terminals_are = A.terminals_are;
        kinds_are = A.kinds_are;
        tokens_are = A.tokens_are;
        file_kinds_are = A.file_kinds_are;
      }

  operand :
      Readable t e bindings g row_of at aks azs als room lo hi → {m : ℕ} → OperandOf e n m →
      Operand bytes starts lengths terminals kinds tokens sizes bindings file_kinds row_of at aks azs als room vks vzs vls m (values m)
  operand Q {m} o =
      let l = L.operands n a b m o in
      let p : m < hi = omega (arith, b, l.1) in
      let i = L.inside m l.0 p in
      let sizes_are = A.sizes_are in
      record {
        known = rw (← A.kinds_are) (omega (arith, p, L.known));
        told = B.is m l.0 l.1;
        spelled = λ s q.
            let r : Readable t e bindings g row_of at aks azs als room (m + 1 - get_or sizes m 0) (m + 1) =
            record { is = λ j u v. Q.is j (omega (arith, u, rw sizes_are at i.0)) (omega (arith, v, p)) } in
            let z : m + 1 - (m + 1 - get_or sizes m 0) ≡ get_or sizes m 0 = omega (arith, rw sizes_are at i.1) in
            nodes_leaves columns (m + 1 - get_or sizes m 0) (m + 1) r ∙ ap (leaves t e bindings g (m + 1 - get_or sizes m 0)) z ∙ rw (← sizes_are) (L.strings m l.0 p s q);
        short = L.short m l.0 p;
      }

  module _ {k : ℕ} (k_is : kind e n ≡ k) {r : code.Answer}
      (G : Compared bytes starts lengths terminals kinds tokens sizes bindings file_kinds row_of at aks azs als room vks vzs vls k n r) where
    in_item : k ≡ node.interval → Gives r (values n)
    in_item h =
        let i = k_is ∙ h in
        let c : Comparison (shape_in t e bindings n) = subst Comparison (sym (interval_shape t e bindings n i)) an_interval in
        let Q = R.is n a b c in
        same (at_interval t e bindings values g n i ∙ sym (L.step n a b))
        ((G.interval h).is e A.terminals_are A.tokens_are A.sizes_are _ _ _ (operand Q (low_of i)) (operand Q (item_of i)) (operand Q (high_of i)))

    in_relation : kind e n ≡ node.two_operand → is_relation (terminal e n) ≡ true → Gives r (values n)
    in_relation h j =
        let c : Comparison (shape_in t e bindings n) = relation_shape t e bindings n h j in
        let Q = R.is n a b c in
        let no : k ≡ node.interval → ⊥ = λ z. let y : ◌≡◌ {A = ℕ} 10 11 = sym h ∙ k_is ∙ z in absurd (omega arith) in
        same (at_operator t e bindings values g n h ∙ sym (L.step n a b))
        ((G.relation no).is e A.terminals_are A.tokens_are A.sizes_are j _ _ (operand Q (left_of h)) (operand Q (right_of h)))

    pub compared_value : Compares k terminals tokens sizes vks n true → Gives r (values n)
    compared_value C = ⊎_elim two item (or_cases _ _ (sym (rw (A.terminals_are, A.tokens_are) (C.is e A.sizes_are))))
      where
        two : (eqb k node.two_operand && (eqb (get_or vks (last n) 0) 5 && is_relation (terminal e n))) ≡ true → Gives r (values n)
        two h =
            let five = eqb (get_or vks (last n) 0) 5 in
            let rel = is_relation (terminal e n) in
            in_relation (k_is ∙ eqb-true k node.two_operand (and_fst (eqb k node.two_operand) (five && rel) h))
            (and_snd five rel (and_snd (eqb k node.two_operand) (five && rel) h))

        item : (eqb k node.interval && eqb (get_or vks (middle e n) 0) 5) ≡ true → Gives r (values n)
        item h = in_item (eqb-true k node.interval (and_fst (eqb k node.interval) (eqb (get_or vks (middle e n) 0) 5) h))
