-- The answers of the constants of a file in its answer columns and the room (K13, K26, K36).
use Rattle.std.specs.Prelude.{◌≡◌, List, map, ℕ, ◌≤◌, ℤ, pos, length, get_or}
use Rattle.std.proofs.lemmas.List.Edits.{sets}
use Rattle.columns.specs.Column.{padded}
use Rattle.express.specs.Syntax.Tree.{Table, count}
use Rattle.express.specs.Semantics.Answer.{Answer}
use Rattle.express.specs.Semantics.AnswerRow.{AnswerRow, rows_from, room_of}
use Rattle.express.specs.Semantics.Kind.{constants}
use Rattle.schemas.specs.Rows.{start_of, row_of_constant, Placed, FilledRows, FilledRoom}
-- what the promise is made of, for those who cite it
pub use Rattle.constant_rows.specs.Numbering.{row_in}
pub use Rattle.schemas.specs.Rows.{row, answer_of_constant, file_answers, OfFile, Rows, Room, Holds}

-- the rows of some answers, from the first row on, their strings from the start of the room
pub record WrittenRows (aks : List ℕ) (azs : List ℤ) (als : List ℕ) (xs : List Answer) (aks' : List ℕ) (azs' : List ℤ) (als' : List ℕ) : Type 0 where
  pub kinds_are : aks' ≡ sets aks 0 (map (λ (r : AnswerRow). r.kind) (rows_from 0 xs))
  pub numbers_are : azs' ≡ sets azs 0 (map (λ (r : AnswerRow). r.number) (rows_from 0 xs))
  pub lengths_are : als' ≡ sets als 0 (map (λ (r : AnswerRow). r.length) (rows_from 0 xs))

-- the entries from row n on are as they were
pub record Behind (n : ℕ) (aks : List ℕ) (azs : List ℤ) (als aks' : List ℕ) (azs' : List ℤ) (als' : List ℕ) : Type 0 where
  pub kinds_are : (i : ℕ) → n ≤ i → get_or aks' i 0 ≡ get_or aks i 0
  pub numbers_are : (i : ℕ) → n ≤ i → get_or azs' i (pos 0) ≡ get_or azs i (pos 0)
  pub lengths_are : (i : ℕ) → n ≤ i → get_or als' i 0 ≡ get_or als i 0

module _ (bytes starts lengths terminals kinds tokens sizes bindings declared order : List ℕ) where
  -- THE STARTS OF STRINGS: the rows of the constants that are declared STRING are there, and all entries behind those of constants are as they were; r bytes
  -- the strings take
  pub record PlacesConstants (row_of aks : List ℕ) (azs : List ℤ) (als vks : List ℕ) (vzs : List ℤ) (vls aks' : List ℕ) (azs' : List ℤ) (als' : List ℕ) (r : ℕ) : Type 0 where
    pub is :
        (t : Table) → OfFile t bytes starts lengths terminals kinds tokens sizes bindings declared order → Rows t row_of → Room t vks vzs vls →
        Holds (length (constants t)) aks azs als →
        (r ≡ length (room_of (file_answers t))) × Placed t 0 (count t) 0 aks' azs' als' × Behind (length (constants t)) aks azs als aks' azs' als'

  -- THE SCHEMAS one after the other: the rows of all constants are filled, and all strings lie in the room
  pub record FillsSchemas (row_of aks : List ℕ) (azs : List ℤ) (als vks : List ℕ) (vzs : List ℤ) (vls room aks' : List ℕ) (azs' : List ℤ) (als' room' : List ℕ) : Type 0 where
    pub is :
        (t : Table) → OfFile t bytes starts lengths terminals kinds tokens sizes bindings declared order → Rows t row_of → Room t vks vzs vls →
        Holds (length (constants t)) aks azs als → Placed t 0 (count t) 0 aks azs als → start_of t (count t) ≤ length room →
        FilledRows (row_of_constant t) t 0 (count t) 0 aks azs als aks' azs' als' × FilledRoom t 0 (count t) room room'

  -- THE ANSWERS OF A FILE, in the order of the text; all other entries of the answer columns are as they were. The bytes that their strings take are
  -- told; where the room has so many, they lie in it with zeros behind
  pub record EvaluatesConstants (was aks : List ℕ) (azs : List ℤ) (als vks : List ℕ) (vzs : List ℤ) (vls room row_of' aks' : List ℕ) (azs' : List ℤ) (als' room' : List ℕ) (r : ℕ)
      : Type 0 where
    pub rows : (t : Table) → OfFile t bytes starts lengths terminals kinds tokens sizes bindings declared order → count t ≤ length was → Rows t row_of'
    pub needs :
        (t : Table) → OfFile t bytes starts lengths terminals kinds tokens sizes bindings declared order → count t ≤ length was → Room t vks vzs vls →
        Holds (length (constants t)) aks azs als → r ≡ length (room_of (file_answers t))
    pub is :
        (t : Table) → OfFile t bytes starts lengths terminals kinds tokens sizes bindings declared order → count t ≤ length was → Room t vks vzs vls →
        Holds (length (constants t)) aks azs als → r ≤ length room →
        WrittenRows aks azs als (file_answers t) aks' azs' als' × (room' ≡ padded 0 (length room) (room_of (file_answers t)))
