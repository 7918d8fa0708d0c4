-- What the names of a file come to (N19), and the room that the stages need.
use Rattle.std.specs.Prelude.{◌≡◌, Bool, true, false, cond, List, ℕ, ◌+◌, ◌*◌, ◌≤◌, ◌<◌, min, length, get_or, take, Option, Some, None, Result, Ok, Err}
use Rattle.std.proofs.lemmas.List.Edits.{sets}
use Rattle.faults.specs.declared.Fault.{Fault}
use Rattle.faults.specs.Meaning.{is_fine}
use Rattle.resolutions.specs.declared.Refusal.{Refusal}
use Rattle.resolutions.specs.declared.Refusal.TheVariants.{Faulty}

-- `narrow`: the roles stand at the front of the column of bytes; false only where it is too short, or a role is no byte
pub record Narrows (roles : List ℕ) (room : ℕ) (r : Bool) (bytes' : List ℕ) : Type 0 where
  pub fits : r ≡ true → length roles ≤ room
  pub front : r ≡ true → take (length roles) bytes' ≡ roles
  pub no : r ≡ false → length roles ≤ room → ((n : ℕ) → n < length roles → get_or roles n 0 < 256) → ⊥

-- Lengths of the columns that the stages write, for so many tokens and declarations: an offset for each declaration and one more, an arc for
-- every two tokens, two orders, the words of the search, and a table with an entry for each token and each declaration and one more. (A declaration's number is a stamp of 15 bits.)
pub record StageRoom (tokens vertices first to types constants scratch : ℕ) : Type 0 where
  pub few : vertices < 32767
  pub first_room : vertices < first
  pub to_room : tokens ≤ 2 * to
  pub to_small : to < 4294967296
  pub types_room : vertices ≤ types
  pub constants_room : vertices ≤ constants
  pub search_room : 6 * vertices ≤ scratch
  pub table_room : tokens + vertices < scratch

-- `finish`: the answer to a fault, and the roles back in the column of bindings
abbrev pub answer_to : Option Fault → Result (Unit {0}) Refusal
answer_to None = Ok tt
answer_to (Some f) = cond (is_fine (Some f)) (Ok tt) (Err (Faulty f))

pub record Finishes (f : Option Fault) (roles bindings : List ℕ) (r : Result (Unit {0}) Refusal) (bindings' : List ℕ) : Type 0 where
  pub answer : r ≡ answer_to f
  pub bindings_are : bindings' ≡ cond (is_fine f) bindings (sets bindings 0 (take (min (length roles) (length bindings)) roles))
