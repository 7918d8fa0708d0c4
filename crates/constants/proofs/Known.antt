-- After a file is evaluated its columns and the room give the answer of each constant by its node: what an expression that is read later asks for.
use mathlib.Core.Path.{◌≡◌, sym, ap, ap₂, subst, ◌∙◌}
use mathlib.Core.List.{List, [], map}
use Prim.Native.Nat.{ℕ, ◌+◌, ◌-◌, ◌≤◌, ◌<◌}
use native.Mathlib.Omega.{arith}
use lib.IntN.{ℤ, pos}
use lib.ListN.{length, get_or, drop, replicate, length-map, get_or-append}
use lib.Seq.{sets, sets-eq}
use Rattle.columns.specs.Column.{padded}
use Rattle.express.specs.Syntax.NodeKind as node
use Rattle.express.specs.Syntax.Tree.{Table, count, kind}
use Rattle.express.specs.Names.Scope as scope
use Rattle.express.specs.Semantics.Answer.{indeterminate}
use Rattle.express.specs.Semantics.AnswerRow.{AnswerRow, row_of, rows_from, room_of, row_answer}
use Rattle.express.specs.Semantics.AnswerRow as answer_row
use Rattle.express.specs.Semantics.Declared.{declared_type}
use Rattle.express.specs.Semantics.Kind.{constants, WellTyped}
use Rattle.express.specs.Semantics.Rule as rule
use Rattle.express.proofs.Whole.AnswerRow.{row_back}
use Rattle.string_laws.proofs.Answers.{answer_holds}
use Rattle.constants.specs.Constants.{WrittenRows}
use Rattle.schemas.specs.Rows.{row, answer_of_constant, file_answers, OfFile, Rows, Holds}
use Rattle.schemas.proofs.Room.{rows_long}
use Rattle.schemas.proofs.Answers.{map_there, answers_long, row_within, answer_there}

-- what stands in a row of a column
column_there :
    {A : Type 0} (z : A) (f : AnswerRow → A) (t : Table) (was : List A) → length (constants t) ≤ length was → (i : ℕ) → i < length (constants t) →
    get_or (sets was 0 (map f (rows_from 0 (file_answers t)))) i z ≡ f (get_or (rows_from 0 (file_answers t)) i (row_of indeterminate))
column_there z f t was l i b =
    let rs = rows_from 0 (file_answers t) in
    let vs = map f rs in
    let many : length rs ≡ length (constants t) = rows_long 0 (file_answers t) ∙ answers_long t in
    let long : length vs ≡ length (constants t) = length-map rs f ∙ many in
    ap (λ x. get_or x i z) (sets-eq vs was 0 (omega (arith, long))) ∙ get_or-append vs (drop (0 + length vs) was) z i (omega (arith, long)) ∙
    map_there f rs i (row_of indeterminate) z (omega (arith, many))

pub known_after :
    {t : Table} {bytes starts lengths terminals kinds tokens sizes bindings declared order row_of aks : List ℕ} {azs : List ℤ} {als aks' : List ℕ} {azs' : List ℤ} {als' room : List ℕ} →
    OfFile t bytes starts lengths terminals kinds tokens sizes bindings declared order → Rows t row_of → Holds (length (constants t)) aks azs als →
    WrittenRows aks azs als (file_answers t) aks' azs' als' → (n : ℕ) → room ≡ padded 0 n (room_of (file_answers t)) → (c : ℕ) → c < count t → kind t c ≡ node.constant →
    row_answer room (answer_row.row (get_or aks' (get_or row_of c 0) 0) (get_or azs' (get_or row_of c 0) (pos 0)) (get_or als' (get_or row_of c 0) 0)) ≡ answer_of_constant t c
known_after {t} {row_of = row_of} {aks = aks} {azs = azs} {als = als} {aks' = aks'} {azs' = azs'} {als' = als'} {room = room} O W R F n e c l k =
    let i = row t c in
    let b = row_within t c l k in
    let q = W.is c l in
    let rest : List ℕ = replicate (n - length (room_of (file_answers t))) 0 in
    let well : WellTyped t (scope.bindings t) = subst (WellTyped t) (sym O.bindings_are) O.typed in
    let h = subst (rule.Holds t (declared_type t (scope.bindings t) c)) (sym (answer_there t c l k)) (answer_holds t O.scanned O.read O.named well c l k) in
    let a : get_or aks' (get_or row_of c 0) 0 ≡ (get_or (rows_from 0 (file_answers t)) i (answer_row.row_of indeterminate)).kind =
    ap₂ (λ (x : List ℕ) (j : ℕ). get_or x j 0) F.kinds_are q ∙ column_there 0 (λ (r : AnswerRow). r.kind) t aks R.kinds_long i b in
    let d : get_or azs' (get_or row_of c 0) (pos 0) ≡ (get_or (rows_from 0 (file_answers t)) i (answer_row.row_of indeterminate)).number =
    ap₂ (λ (x : List ℤ) (j : ℕ). get_or x j (pos 0)) F.numbers_are q ∙ column_there (pos 0) (λ (r : AnswerRow). r.number) t azs R.numbers_long i b in
    let g : get_or als' (get_or row_of c 0) 0 ≡ (get_or (rows_from 0 (file_answers t)) i (answer_row.row_of indeterminate)).length =
    ap₂ (λ (x : List ℕ) (j : ℕ). get_or x j 0) F.lengths_are q ∙ column_there 0 (λ (r : AnswerRow). r.length) t als R.lengths_long i b in
    rw (a, d, g, e) (row_back (file_answers t) [] rest i h ∙ answer_there t c l k)
