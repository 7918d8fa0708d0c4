-- The column by node that holds what types and constants are declared with, seen through renamings (K2), and the enumerations of items.
use Rattle.std.specs.Prelude.{◌≡◌, true, List, ℕ, ◌+◌, ◌<◌, get_or}
use Rattle.express.specs.Syntax.NodeKind as node
use Rattle.express.specs.Syntax.Tree.{Table, count, kind, owner}
use Rattle.express.specs.Semantics.Declared.{Declared, INTEGER, BOOLEAN, LOGICAL, BINARY, STRING, enumeration, other, declaration, bound, denoted, declared_type}

-- declared types by number (K2)
abbrev pub declared_number : Declared → ℕ
declared_number other = 0
declared_number BOOLEAN = 1
declared_number INTEGER = 2
declared_number LOGICAL = 3
declared_number BINARY = 4
declared_number STRING = 5
declared_number (enumeration y) = y + 6

-- Of a table whose names are bound by b, the column holds: of a constant the number of the type that it is declared with; of a type the number of
-- what a name that is bound to it denotes; of an item the number of its enumeration. Of other nodes nothing is said.
pub record DeclaredColumn (t : Table) (b column : List ℕ) : Type 0 where
  pub constants : (c : ℕ) → c < count t → kind t c ≡ node.constant → get_or column c 0 ≡ declared_number (declared_type t b c)
  pub types : (n : ℕ) → n < count t → bound t b node.type n ≡ true → get_or column (declaration b n) 0 ≡ declared_number (denoted t b n)
  pub items : (m : ℕ) → m < count t → kind t m ≡ node.enumeration_item → get_or column m 0 ≡ owner t m + 6
