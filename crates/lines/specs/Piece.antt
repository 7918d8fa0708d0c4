-- Pieces of a line, written one after the other into a lent buffer.
use Rattle.std.specs.Prelude.{◌≡◌, List, ◌++◌, ℕ, ◌+◌, ◌≤◌, ◌^◌, length}
use Rattle.std.proofs.lemmas.List.Edits.{sets}
use Rattle.express.specs.Tokens.Terminal.{bytes}
use Rattle.express.specs.Syntax.Tree.{Table, schema_of}
use Rattle.express.specs.Whole.Listing.{name_of}

-- a piece stored from an index on, as far as it fits, and the index behind it
pub record Stored (was : List ℕ) (at : ℕ) (piece have : List ℕ) (next : ℕ) : Type 0 where
  pub is : have ≡ sets was at piece
  pub moves : next ≡ at + length piece

-- a piece that is no longer than a token can be
pub record Puts (was : List ℕ) (at : ℕ) (piece have : List ℕ) (next : ℕ) : Type 0 where
  pub put : Stored was at piece have next
  pub near : next ≤ at + 2 ^ 32

-- a line's front up to the answer, from the buffer's start on
pub record Titled (t : Table) (c : ℕ) (was have : List ℕ) (next : ℕ) : Type 0 where
  pub put : Stored was 0 (name_of t (schema_of t c) ++ bytes "." ++ name_of t c ++ bytes " = ") have next
  pub near : next ≤ 2 ^ 34
