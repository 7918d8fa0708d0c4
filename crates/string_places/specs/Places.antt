-- Where the strings of answer rows lie in the room (K35, K36).
use Rattle.std.specs.Prelude.{◌≡◌, cond, List, ◌⊎◌, ℕ, zero, suc, ◌+◌, ◌≤◌, ◌<◌, eqb, ℤ, pos, length, get_or}

-- K35: the bytes that row i has in the room: as many as its length tells of a string, none of a row of another kind
abbrev pub size_in : List ℕ → List ℕ → ℕ → ℕ
size_in kinds lengths i = cond (eqb (get_or kinds i 0) 5) (get_or lengths i 0) 0

-- K36: where the strings of the rows before row i end: of a string, where it starts
unfoldable pub start_in : List ℕ → List ℕ → ℕ → ℕ
start_in kinds lengths zero = 0
start_in kinds lengths (suc i) = start_in kinds lengths i + size_in kinds lengths i

-- the number of each row that holds a string is its start, all other numbers are as they were, and r bytes there are; rows are numbered with 32 bits
pub record PlacesStrings (kinds : List ℕ) (numbers : List ℤ) (lengths : List ℕ) (rows : ℕ) (numbers' : List ℤ) (r : ℕ) : Type 0 where
  pub needs : rows ≤ 4294967296 → r ≡ start_in kinds lengths rows
  pub strings_are : rows ≤ 4294967296 → (i : ℕ) → i < rows → i < length numbers → get_or kinds i 0 ≡ 5 → get_or numbers' i (pos 0) ≡ pos (start_in kinds lengths i)
  pub rest : (i : ℕ) → (rows ≤ i) ⊎ (get_or kinds i 0 ≡ 5 → ⊥) → get_or numbers' i (pos 0) ≡ get_or numbers i (pos 0)
