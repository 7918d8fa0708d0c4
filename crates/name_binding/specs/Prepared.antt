-- The identifiers of a file are interned (N1), and what it declares is entered into its dictionary (N2).
use Rattle.std.specs.Prelude.{◌≡◌, true, List, ℕ, length, take, Result, IsOk, IsErr}
use Rattle.express.specs.Syntax.Tree.{Table}
use Rattle.express.specs.Tokens.Spelling.{symbols_of}
use Rattle.index.specs.Room.{enough}
use Rattle.scopes.specs.Entries.{entries}
use Rattle.scopes.specs.Preparation.{Consistent, Room, Prepared}
use Rattle.scopes.specs.declared.dictionary.Unfit.{Unfit}

-- The symbols of the file's tokens stand at the front of their column, and its dictionary at the front of its columns.
pub record FilePrepared (t : Table) (symbols keys nodes heads next : List ℕ) : Type 0 where
  pub symbols_are : take (length t.symbols) symbols ≡ t.symbols
  pub prepared : Prepared t (take (length (entries t)) keys) (take (length (entries t)) nodes) heads next

-- `prepare`: of any file with these columns; unfit only where they do not fit each other or room is lacking
pub record PreparesFile (src starts lengths terminals kinds tokens roles symbols keys nodes heads links next : List ℕ) (r : Result (Unit {0}) Unfit) (symbols' keys' nodes' heads' next' : List ℕ) : Type 0 where
  pub done :
      IsOk r → (t : Table) → kinds ≡ t.kinds → tokens ≡ t.tokens → roles ≡ t.roles → t.symbols ≡ symbols_of src starts lengths terminals →
      FilePrepared t symbols' keys' nodes' heads' next'
  pub unfit :
      IsErr r → (t : Table) → kinds ≡ t.kinds → tokens ≡ t.tokens → roles ≡ t.roles → t.symbols ≡ symbols_of src starts lengths terminals →
      enough (length starts) (length lengths) (length symbols) (length heads) (length links) ≡ true → Consistent t →
      Room (length (entries t)) (length keys) (length nodes) (length heads) (length next) → ⊥
