-- An enum as one number, for a caller that knows numbers alone.
use Rattle.std.specs.Prelude.{ℕ, ◌≡◌, Option, Some, None, Result, Ok, Err}
use Rattle.faults.specs.Meaning.{number_of}
use Rattle.resolutions.specs.declared.Refusal.{Refusal}
use Rattle.resolutions.specs.declared.Refusal.TheVariants as refusal
use Rattle.cycles.specs.declared.GraphError.{GraphError}
use Rattle.cycles.specs.declared.GraphError.TheVariants.{Malformed, ColumnShort, ScratchShort}

-- r stands for an answer that keeps the promise
pub record Encoded {A R : Type 0} (code : A → R) (Promise : A → Type 0) (r : R) : Type 0 where
  pub answer : A
  pub promise : Promise answer
  pub encodes : r ≡ code answer

-- r and n stand for an answer that keeps the promise
pub record Encodes {A : Type 0} (code beside : A → ℕ) (Promise : A → Type 0) (r n : ℕ) : Type 0 where
  pub answer : A
  pub promise : Promise answer
  pub encodes : r ≡ code answer
  pub number_is : n ≡ beside answer

-- 0 where all names are bound, else the reply and its place; 255, which is no reply, where room is lacking
abbrev pub resolution_reply : Result (Unit {0}) Refusal → ℕ
resolution_reply (Ok x) = 0
resolution_reply (Err (refusal.Faulty f)) = number_of f.reply
resolution_reply (Err refusal.Unfit) = 255

abbrev pub resolution_place : Result (Unit {0}) Refusal → ℕ
resolution_place (Ok x) = 0
resolution_place (Err (refusal.Faulty f)) = f.place
resolution_place (Err refusal.Unfit) = 0

-- an index; the greatest number of 64 bits, which is none
abbrev pub entry : Option ℕ → ℕ
entry (Some i) = i
entry None = 18446744073709551615

-- the smallest vertex on a cycle; the three greatest numbers of 64 bits, which are none
abbrev pub vertex : Result (Option ℕ) GraphError → ℕ
vertex (Ok (Some v)) = v
vertex (Ok None) = 18446744073709551614
vertex (Err Malformed) = 18446744073709551615
vertex (Err (ColumnShort k)) = 18446744073709551613
vertex (Err (ScratchShort k)) = 18446744073709551613
