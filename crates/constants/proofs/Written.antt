-- From the rows of the constants and their strings to the answers in the order of the text.
use mathlib.Core.Path.{◌≡◌, sym, ap, ap₂, subst, ◌∙◌}
use mathlib.Core.Logic.{◌⊎◌, inl, inr}
use mathlib.Core.List.{List, ◌++◌, map}
use Prim.Native.Nat.{ℕ, ◌+◌, ◌-◌, ◌≤◌, ◌<◌}
use native.Mathlib.Omega.{arith}
use lib.IntN.{ℤ}
use lib.ListN.{length, get_or, take, drop, length-map, get_or-append}
use lib.Seq.{sets, length-sets, sets-eq, ext_get_or, get_or-drop, get_or-append-add}
use Rattle.columns.specs.Column.{cleared, padded}
use Rattle.columns.proofs.Laws.{length_cleared}
use Rattle.relations.proofs.Select.{le_or}
use Rattle.express.specs.Syntax.Tree.{Table, count}
use Rattle.express.specs.Semantics.Answer.{Answer, indeterminate}
use Rattle.express.specs.Semantics.AnswerRow.{AnswerRow, row_at, row_of, bytes_of, rows_from, room_of}
use Rattle.express.specs.Semantics.Kind.{constants}
use Rattle.constants.specs.Constants.{WrittenRows, PlacesConstants, FillsSchemas, EvaluatesConstants}
use Rattle.constant_rows.specs.Numbering.{NumbersRows}
use Rattle.schemas.specs.Rows.{row, file_answers, start_of, row_of_constant, OfFile, Rows, Room, Holds, Filled, FilledRoom}
use Rattle.schemas.proofs.Room.{rows_long, rows_at, strings_in_front, strings_padded}
use Rattle.schemas.proofs.Answers.{map_there, constant_at, answers_long, answer_there, start_all}

-- the row of a constant among all rows
row_there : (t : Table) (i : ℕ) (b : i < length (constants t)) → get_or (rows_from 0 (file_answers t)) i (row_of indeterminate) ≡ row_of_constant t (constant_at t i b).which
row_there t i b =
    let C = constant_at t i b in
    let c = C.which in
    let s : 0 + length (room_of (take i (file_answers t))) ≡ start_of t c = ap (λ (j : ℕ). 0 + length (room_of (take j (file_answers t)))) (sym C.place) ∙ omega arith in
    rows_at 0 (file_answers t) i (row_of indeterminate) (omega (arith, answers_long t)) ∙
    ap₂ row_at s (ap (λ (j : ℕ). get_or (file_answers t) j indeterminate) (sym C.place) ∙ answer_there t c C.known C.is_constant)

module _ {A : Type 0} {z : A} (f : AnswerRow → A) {t : Table} {was column : List A} where
  written :
      Filled z (λ c. f (row_of_constant t c)) t 0 (count t) 0 was column → length column ≡ length was → length (constants t) ≤ length was →
      column ≡ sets was 0 (map f (rows_from 0 (file_answers t)))
  written F q l = ext_get_or z column (sets was 0 vs) (q ∙ sym (length-sets was 0 vs)) (λ i b. each i b ∙ sym (ap (λ (c : List A). get_or c i z) parts))
    where
      vs : List A
      vs = map f (rows_from 0 (file_answers t))

      rows_are : length (rows_from 0 (file_answers t)) ≡ length (constants t)
      rows_are = rows_long 0 (file_answers t) ∙ answers_long t

      long : length vs ≡ length (constants t)
      long = length-map (rows_from 0 (file_answers t)) f ∙ rows_are

      parts : sets was 0 vs ≡ take 0 was ++ vs ++ drop (0 + length vs) was
      parts = sets-eq vs was 0 (omega (arith, long))

      each : (i : ℕ) → i < length column → get_or column i z ≡ get_or (vs ++ drop (0 + length vs) was) i z
      each i b = by (le_or (length vs) i)
        where
          by : (length vs ≤ i) ⊎ (i < length vs) → get_or column i z ≡ get_or (vs ++ drop (0 + length vs) was) i z
          by (inl a) =
              let g : i ≡ length vs + (i - length vs) = omega arith in
              let h : 0 + length vs + (i - length vs) ≡ i = omega arith in
              F.rest i (omega (arith, long)) ∙
              sym (ap (λ (x : ℕ). get_or (vs ++ drop (0 + length vs) was) x z) g ∙ get_or-append-add vs (drop (0 + length vs) was) (i - length vs) z ∙
              get_or-drop (0 + length vs) was (i - length vs) z ∙ ap (λ (x : ℕ). get_or was x z) h)
          by (inr a) =
              let n : i < length (constants t) = omega (arith, long) in
              let C = constant_at t i n in
              let g : i ≡ row t C.which - 0 = omega (arith, C.place) in
              ap (λ (x : ℕ). get_or column x z) g ∙ F.constants_are C.which (omega arith) C.known C.is_constant ∙
              sym (get_or-append vs (drop (0 + length vs) was) z i a ∙ map_there f (rows_from 0 (file_answers t)) i (row_of indeterminate) z (omega (arith, rows_are)) ∙
              ap f (row_there t i n))

  -- over a column that differs only in the rows of constants
  over : {first : List A} → Filled z (λ c. f (row_of_constant t c)) t 0 (count t) 0 was column → ((i : ℕ) → length (constants t) ≤ i → get_or was i z ≡ get_or first i z) →
      Filled z (λ c. f (row_of_constant t c)) t 0 (count t) 0 first column
  over F h = record { constants_are = F.constants_are; rest = λ r l. F.rest r l ∙ h r (omega arith) }

room_written :
    (t : Table) (room room' : List ℕ) → length (room_of (file_answers t)) ≤ length room →
    FilledRoom t 0 (count t) (cleared 0 (length (room_of (file_answers t))) room) room' → room' ≡ padded 0 (length room) (room_of (file_answers t))
room_written t room room' l F =
    strings_padded (room_of (file_answers t)) room room' l (F.long ∙ length_cleared 0 (length (room_of (file_answers t))) room) (strings_in_front (file_answers t) room' piece)
    (λ i h. F.rest i (inr (omega (arith, start_all t))))
  where
    piece :
        (i : ℕ) → i < length (file_answers t) →
        take (length (bytes_of (get_or (file_answers t) i indeterminate))) (drop (length (room_of (take i (file_answers t)))) room')
        ≡ bytes_of (get_or (file_answers t) i indeterminate)
    piece i b =
        let C = constant_at t i (omega (arith, answers_long t)) in
        let c = C.which in
        subst
        (λ (j : ℕ).
        take (length (bytes_of (get_or (file_answers t) j indeterminate))) (drop (length (room_of (take j (file_answers t)))) room')
        ≡ bytes_of (get_or (file_answers t) j indeterminate))
        C.place
        (subst (λ (a : Answer). take (length (bytes_of a)) (drop (start_of t c) room') ≡ bytes_of a) (sym (answer_there t c C.known C.is_constant))
        (F.strings_are c (omega arith) C.known C.is_constant))

numbered :
    {bytes starts lengths terminals kinds tokens sizes bindings declared order was row_of : List ℕ} → NumbersRows kinds was row_of → (t : Table) →
    OfFile t bytes starts lengths terminals kinds tokens sizes bindings declared order → count t ≤ length was → Rows t row_of
numbered N t O r =
    let e = O.kinds_are in
    record { is = λ n l. rw e (N.is (rw (← e) O.few) n (rw (← e) l) (omega arith)) }

module _ {bytes starts lengths terminals kinds tokens sizes bindings declared order was row_of aks : List ℕ} {azs : List ℤ} {als vks : List ℕ} {vzs : List ℤ} {vls room : List ℕ}
    (N : NumbersRows kinds was row_of) {aks₁ : List ℕ} {azs₁ : List ℤ} {als₁ : List ℕ} {r : ℕ}
    (P : PlacesConstants bytes starts lengths terminals kinds tokens sizes bindings declared order row_of aks azs als vks vzs vls aks₁ azs₁ als₁ r) where
  -- the room has too few bytes
  pub file_measured :
      length room < r → EvaluatesConstants bytes starts lengths terminals kinds tokens sizes bindings declared order was aks azs als vks vzs vls room row_of aks₁ azs₁ als₁ room r
  file_measured h =
      record { rows = numbered N; needs = λ t O n M R. (P.is t O (numbered N t O n) M R).0; is = λ t O n M R l. absurd (omega arith) }

  -- or it has them
  pub file_evaluated :
      {vks₁ : List ℕ} {vzs₁ : List ℤ} {vls₁ room₁ aks' : List ℕ} {azs' : List ℤ} {als' room' : List ℕ} →
      FillsSchemas bytes starts lengths terminals kinds tokens sizes bindings declared order row_of aks₁ azs₁ als₁ vks₁ vzs₁ vls₁ room₁ aks' azs' als' room' →
      r ≤ length room → room₁ ≡ cleared 0 r room → length aks₁ ≡ length aks → length azs₁ ≡ length azs → length als₁ ≡ length als →
      length vks₁ ≡ length vks → length vzs₁ ≡ length vzs → length vls₁ ≡ length vls →
      length aks' ≡ length aks₁ → length azs' ≡ length azs₁ → length als' ≡ length als₁ →
      EvaluatesConstants bytes starts lengths terminals kinds tokens sizes bindings declared order was aks azs als vks vzs vls room row_of aks' azs' als' room' r
  file_evaluated {vks₁} {vzs₁} {vls₁} {room₁} {aks'} {azs'} {als'} {room'} E fits cleared_is a b c u v w a' b' c' =
      record { rows = numbered N; needs = λ t O n M R. (P.is t O (numbered N t O n) M R).0; is = λ t O n M R l. all t O (numbered N t O n) M R }
    where
      all :
          (t : Table) → OfFile t bytes starts lengths terminals kinds tokens sizes bindings declared order → Rows t row_of → Room t vks vzs vls →
          Holds (length (constants t)) aks azs als →
          WrittenRows aks azs als (file_answers t) aks' azs' als' × (room' ≡ padded 0 (length room) (room_of (file_answers t)))
      all t O W M R =
          let Q = P.is t O W M R in
          let B = Q.2 in
          let e = Q.0 in
          let q : room₁ ≡ cleared 0 (length (room_of (file_answers t))) room = cleared_is ∙ ap (λ (n : ℕ). cleared 0 n room) e in
          let G =
          E.is t O W (record {
            kinds_long = omega (arith, u, M.kinds_long);
            numbers_long = omega (arith, v, M.numbers_long);
            lengths_long = omega (arith, w, M.lengths_long);
          }) (record {
            kinds_long = omega (arith, a, R.kinds_long);
            numbers_long = omega (arith, b, R.numbers_long);
            lengths_long = omega (arith, c, R.lengths_long);
          }) Q.1 (omega (arith, start_all t, e, fits, ap length cleared_is, length_cleared 0 r room)) in
          let F = G.0 in (
            record {
              kinds_are = written (λ (x : AnswerRow). x.kind) (over (λ (x : AnswerRow). x.kind) F.kinds_are B.kinds_are) (a' ∙ a) R.kinds_long;
              numbers_are = written (λ (x : AnswerRow). x.number) (over (λ (x : AnswerRow). x.number) F.numbers_are B.numbers_are) (b' ∙ b) R.numbers_long;
              lengths_are = written (λ (x : AnswerRow). x.length) (over (λ (x : AnswerRow). x.length) F.lengths_are B.lengths_are) (c' ∙ c) R.lengths_long;
            },
            room_written t room room' (omega (arith, e)) (subst (λ (x : List ℕ). FilledRoom t 0 (count t) x room') q G.1),
          )
