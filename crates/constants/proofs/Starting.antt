-- From what is measured of the constants to the rows of strings: other answers have no bytes, so the starts are those of all answers.
use mathlib.Core.Path.{◌≡◌, refl, sym, ap, ap₂, subst, ◌∙◌}
use mathlib.Core.Logic.{inl, inr}
use mathlib.Core.Bool.{Bool, true, false, true≢false, cond}
use mathlib.Core.List.Memᴰ
use mathlib.Core.List.{List, Memᴰ}
use Prim.Native.Nat.{ℕ, min, zero, suc, ◌+◌, ◌-◌, ◌≤◌, ◌<◌}
use native.Mathlib.Omega.{arith}
use borrow.Author.Tests.{eqb-true}
use lib.Dec.{eqb}
use lib.IntN.{ℤ, pos}
use lib.ListN.{length, get_or, take}
use Rattle.relations.specs.Select.{span}
use Rattle.relations.proofs.Select.{keep_short}
use Rattle.express.specs.Syntax.NodeKind as node
use Rattle.express.specs.Syntax.Tree.{Table, count, kind, is, nodes}
use Rattle.express.specs.Names.Scope as scope
use Rattle.express.specs.Semantics.Answer.{Answer, indeterminate, integer, logical, binary, item, string, end, ends}
use Rattle.express.specs.Semantics.AnswerRow.{row_at, row_of, bytes_of, room_of}
use Rattle.express.specs.Semantics.Declared.{Declared, INTEGER, BOOLEAN, LOGICAL, BINARY, STRING, enumeration, other, declared_type}
use Rattle.express.specs.Semantics.DeclaredColumn.{declared_number}
use Rattle.express.specs.Semantics.Kind.{constants, WellTyped}
use Rattle.express.proofs.Syntax.Within.{file_last}
use Rattle.string_laws.proofs.Answers.{StringAnswer, no_value, an_end, a_string, no_bytes, string_answer}
use Rattle.string_places.specs.Places.{size_in, start_in, PlacesStrings}
use Rattle.string_places.proofs.Starts.{starts_are}
use Rattle.schemas.specs.Rows.{row, answer_of_constant, file_answers, start_of, row_of_constant, is_string, measured, measured_row, OfFile, Rows, FilledRows, Placed, MeasuresConstants}
use Rattle.constants.specs.Constants.{Behind, PlacesConstants}
use Rattle.constant_rows.proofs.Numbering.{row_other}
use Rattle.schemas.proofs.Answers.{constant_at, answers_long, row_within, answer_there, start_all}

-- ---- rows of answers
kind_same : (start : ℕ) (a : Answer) → (row_of a).kind ≡ (row_at start a).kind
kind_same start indeterminate = refl
kind_same start (integer z) = refl
kind_same start (logical l) = refl
kind_same start (binary s) = refl
kind_same start (item m) = refl
kind_same start (string s) = refl
kind_same start (end e) = refl

length_same : (start : ℕ) (a : Answer) → (row_of a).length ≡ (row_at start a).length
length_same start indeterminate = refl
length_same start (integer z) = refl
length_same start (logical l) = refl
length_same start (binary s) = refl
length_same start (item m) = refl
length_same start (string s) = refl
length_same start (end e) = refl

-- the bytes that a row tells of
cond_zero : (b : Bool) → ◌≡◌ {A = ℕ} (cond b 0 0) 0
cond_zero true = refl
cond_zero false = refl

row_size : (a : Answer) → cond (eqb (row_of a).kind 5) (row_of a).length 0 ≡ length (bytes_of a)
row_size indeterminate = refl
row_size (integer z) = refl
row_size (logical l) = refl
row_size (binary s) = refl
row_size (item m) = refl
row_size (string s) = refl
row_size (end e) = cond_zero (eqb e 5)

-- ---- what is declared STRING
string_number : (d : Declared) → declared_number d ≡ 5 → d ≡ STRING
string_number other e = absurd (omega arith)
string_number BOOLEAN e = absurd (omega arith)
string_number INTEGER e = absurd (omega arith)
string_number LOGICAL e = absurd (omega arith)
string_number BINARY e = absurd (omega arith)
string_number STRING e = refl
string_number (enumeration y) e = absurd (omega arith)

not_five : {e : ℕ} → Memᴰ e ends → e ≡ 5 → ⊥
not_five (Memᴰ.head q) h = omega arith
not_five (Memᴰ.tail (Memᴰ.head q)) h = omega arith
not_five (Memᴰ.tail (Memᴰ.tail (Memᴰ.head q))) h = omega arith
not_five (Memᴰ.tail (Memᴰ.tail (Memᴰ.tail (Memᴰ.head q)))) h = omega arith
not_five (Memᴰ.tail (Memᴰ.tail (Memᴰ.tail (Memᴰ.tail m)))) h = Memᴰ.not-nil m

length_span : (i d : ℕ) → length (span i d) ≡ d
unfolding span
length_span i zero = refl
length_span i (suc d) = ap suc (length_span (suc i) d)

module _ {t : Table} {bytes starts lengths terminals kinds tokens sizes bindings declared order : List ℕ}
    (O : OfFile t bytes starts lengths terminals kinds tokens sizes bindings declared order) where
  well : WellTyped t (scope.bindings t)
  well = subst (WellTyped t) (sym O.bindings_are) O.typed

  module _ (c : ℕ) (l : c < count t) (k : kind t c ≡ node.constant) where
    -- what is measured has the bytes of the answer
    measured_size : length (bytes_of (measured t c)) ≡ length (bytes_of (answer_of_constant t c))
    measured_size = by (is_string t c) refl
      where
        by : (b : Bool) → is_string t c ≡ b → length (bytes_of (measured t c)) ≡ length (bytes_of (answer_of_constant t c))
        by true h = rw h
        by false h =
            let none = no_bytes t O.scanned O.read O.named well c l k (λ e.
            let q : is_string t c ≡ true = rw e in
            true≢false (sym q ∙ h)) in
            rw h (sym (ap length none))

    string_there : is_string t c ≡ true → StringAnswer (answer_of_constant t c)
    string_there h =
        string_answer t O.scanned O.read O.named well c l k (string_number (declared_type t (scope.bindings t) c) (eqb-true _ 5 h))

  few : length (constants t) ≤ 4294967296
  few = let s = keep_short (is t node.constant) (nodes t) in omega (arith, s, length_span 0 (count t), O.few)

  -- the row of the last node, which is the file's, counts all constants
  module _ {row_of : List ℕ} (W : Rows t row_of) {last rows : ℕ} (last_is : last ≡ length kinds - 1) (rows_is : rows ≡ get_or row_of last 0) where
    all_rows : rows ≡ length (constants t)
    all_rows =
        let f = file_last O.read in
        let u = f.0 in
        let a : last ≡ count t - 1 = omega (arith, ap length O.kinds_are) in
        let b : count t - 1 + 1 ≡ count t = omega arith in
        let no : kind t (count t - 1) ≡ node.constant → ⊥ = λ e. let q : ◌≡◌ {A = ℕ} 26 17 = sym f.1 ∙ e in absurd (omega arith) in
        rows_is ∙ ap (λ (n : ℕ). get_or row_of n 0) a ∙ W.is (count t - 1) (omega arith) ∙ sym (row_other t.kinds (count t - 1) no) ∙ ap (row t) b

  module _ {aks : List ℕ} {azs : List ℤ} {als aks' : List ℕ} {azs₁ : List ℤ} {als' : List ℕ} (F : FilledRows (measured_row t) t 0 (count t) 0 aks azs als aks' azs₁ als') where
    kind_there : (c : ℕ) → c < count t → kind t c ≡ node.constant → get_or aks' (row t c) 0 ≡ (measured_row t c).kind
    kind_there c l k = let q : row t c ≡ row t c - 0 = omega arith in ap (λ (i : ℕ). get_or aks' i 0) q ∙ F.kinds_are.constants_are c (omega arith) l k

    number_there : (c : ℕ) → c < count t → kind t c ≡ node.constant → get_or azs₁ (row t c) (pos 0) ≡ (measured_row t c).number
    number_there c l k = let q : row t c ≡ row t c - 0 = omega arith in ap (λ (i : ℕ). get_or azs₁ i (pos 0)) q ∙ F.numbers_are.constants_are c (omega arith) l k

    length_there : (c : ℕ) → c < count t → kind t c ≡ node.constant → get_or als' (row t c) 0 ≡ (measured_row t c).length
    length_there c l k = let q : row t c ≡ row t c - 0 = omega arith in ap (λ (i : ℕ). get_or als' i 0) q ∙ F.lengths_are.constants_are c (omega arith) l k

    -- the rows have the bytes of the answers
    sizes_are : (i : ℕ) → i < length (file_answers t) → size_in aks' als' i ≡ length (bytes_of (get_or (file_answers t) i indeterminate))
    sizes_are i b =
        let C = constant_at t i (omega (arith, answers_long t)) in
        let c = C.which in
        let l = C.known in
        let k = C.is_constant in
        ap (size_in aks' als') (sym C.place) ∙ ap₂ (λ (x y : ℕ). cond (eqb x 5) y 0) (kind_there c l k) (length_there c l k) ∙ row_size (measured t c) ∙
        measured_size c l k ∙ ap (λ (a : Answer). length (bytes_of a)) (sym (answer_there t c l k) ∙ ap (λ (j : ℕ). get_or (file_answers t) j indeterminate) C.place)

    starts_there : (i : ℕ) → i ≤ length (constants t) → start_in aks' als' i ≡ length (room_of (take i (file_answers t)))
    starts_there i l = starts_are aks' als' (file_answers t) sizes_are i (omega (arith, answers_long t))

    module _ {rows r : ℕ} {azs' : List ℤ} (all : rows ≡ length (constants t)) (S : PlacesStrings aks' azs₁ als' rows azs' r) where
      needed : r ≡ length (room_of (file_answers t))
      needed = S.needs (omega (arith, few)) ∙ ap (start_in aks' als') all ∙ starts_there (length (constants t)) (omega arith) ∙ start_all t

      module _ (c : ℕ) (l : c < count t) (k : kind t c ≡ node.constant) (s : is_string t c ≡ true) where
        measured_is : measured t c ≡ answer_of_constant t c
        measured_is = rw s

        same_row : row t c - 0 ≡ row t c
        same_row = omega arith

        number_placed : length (constants t) ≤ length azs₁ → get_or azs' (row t c - 0) (pos 0) ≡ (row_of_constant t c).number
        number_placed long = ap (λ (i : ℕ). get_or azs' i (pos 0)) same_row ∙ by (answer_of_constant t c) refl (string_there c l k s)
          where
            was : (a : Answer) → answer_of_constant t c ≡ a → get_or azs₁ (row t c) (pos 0) ≡ (row_of a).number
            was a e = number_there c l k ∙ ap (λ (x : Answer). (row_of x).number) (measured_is ∙ e)

            its_kind : (a : Answer) → answer_of_constant t c ≡ a → get_or aks' (row t c) 0 ≡ (row_of a).kind
            its_kind a e = kind_there c l k ∙ ap (λ (x : Answer). (row_of x).kind) (measured_is ∙ e)

            result : (a : Answer) → answer_of_constant t c ≡ a → (row_at (start_of t c) a).number ≡ (row_of_constant t c).number
            result a e = ap (λ (x : Answer). (row_at (start_of t c) x).number) (sym e)

            by : (a : Answer) → answer_of_constant t c ≡ a → StringAnswer a → get_or azs' (row t c) (pos 0) ≡ (row_of_constant t c).number
            by a e no_value = S.rest (row t c) (inr (λ q. let h = its_kind a e in absurd (omega arith))) ∙ was a e ∙ result a e
            by a e (an_end m) = S.rest (row t c) (inr (λ q. not_five m (sym (its_kind a e) ∙ q))) ∙ was a e ∙ result a e
            by a e (a_string n) =
                let w = row_within t c l k in
                S.strings_are (omega (arith, few)) (row t c) (omega arith) (omega arith) (its_kind a e) ∙ ap pos (starts_there (row t c) (omega arith)) ∙ result a e

      rows_placed : length (constants t) ≤ length azs₁ → Placed t 0 (count t) 0 aks' azs' als'
      rows_placed long =
          record {
            kinds_are = λ c a l k s.
                F.kinds_are.constants_are c a l k ∙ ap (λ (x : Answer). (row_of x).kind) (measured_is c l k s) ∙ kind_same (start_of t c) (answer_of_constant t c);
            numbers_are = λ c a l k s. number_placed c l k s long;
            lengths_are = λ c a l k s.
                F.lengths_are.constants_are c a l k ∙ ap (λ (x : Answer). (row_of x).length) (measured_is c l k s) ∙ length_same (start_of t c) (answer_of_constant t c);
          }

      behind_rows : Behind (length (constants t)) aks azs als aks' azs' als'
      behind_rows =
          record {
            kinds_are = λ i h. F.kinds_are.rest i (omega arith);
            numbers_are = λ i h. S.rest i (inl (omega arith)) ∙ F.numbers_are.rest i (omega arith);
            lengths_are = λ i h. F.lengths_are.rest i (omega arith);
          }

module _ {bytes starts lengths terminals kinds tokens sizes bindings declared order row_of aks : List ℕ} {azs : List ℤ} {als vks : List ℕ} {vzs : List ℤ} {vls aks' : List ℕ}
    {azs₁ : List ℤ} {als' : List ℕ} where
  pub constants_placed :
      MeasuresConstants bytes starts lengths terminals kinds tokens sizes bindings declared order row_of aks azs als vks vzs vls aks' azs₁ als' →
      length azs₁ ≡ length azs → length aks' ≡ length aks → {last all rows : ℕ} → last ≡ length kinds - 1 → all ≡ get_or row_of last 0 → rows ≡ min all (length aks') →
      {azs' : List ℤ} {r : ℕ} → PlacesStrings aks' azs₁ als' rows azs' r →
      PlacesConstants bytes starts lengths terminals kinds tokens sizes bindings declared order row_of aks azs als vks vzs vls aks' azs' als' r
  constants_placed E q k {rows = rows} last_is all_is rows_is S =
      record {
        is = λ t O W M R.
            let F = E.is t O W M R in
            let a : rows ≡ length (constants t) = omega (arith, all_rows O W last_is all_is, rows_is, k, R.kinds_long) in
            (needed O F a S, rows_placed O F a S (omega (arith, q, R.numbers_long)), behind_rows O F a S);
      }
