-- The numbers of items, types and constants, as they are stored one after the other: from the columns of a file, and from what the column of numbers
-- holds by then.
use Rattle.std.specs.Prelude.{Bool, cond, ℕ, ◌+◌, ◌-◌, leb, get_or, set}
use mathlib.Core.List.{List, [], foldl}
use Rattle.express.specs.Syntax.NodeKind.{simple_type, enumeration_item, constant, type}
use Rattle.relations.specs.Select.{span}
use Rattle.express.specs.Syntax.Tree.{Table, terminal, first, is, type_node}
use Rattle.express.specs.Names.Fault.{is_enumeration}
use Rattle.express.specs.Semantics.Declared.{declaration, bound, simple, renames}
use Rattle.express.specs.Semantics.DeclaredColumn.{declared_number}

-- a table with these columns: what is declared goes by no others
abbrev pub table_of : List ℕ → List ℕ → List ℕ → List ℕ → Table
table_of terminals kinds tokens sizes =
    record { bytes = []; starts = []; lengths = []; terminals = terminals; symbols = []; kinds = kinds; tokens = tokens; sizes = sizes; roles = [] }

-- the last node whose number as an enumeration fits into 32 bits
abbrev pub last_node : ℕ
last_node = 4294967289

-- the enumeration that is the type y; 0 where its number does not fit
unfoldable pub enumeration_number : ℕ → ℕ
enumeration_number y = cond (leb y last_node) (y + 6) 0

-- what node n is or names (K2); a type that it names has its number in the column
unfoldable pub base_number : Table → List ℕ → List ℕ → ℕ → ℕ
base_number t b column n =
    cond (is t simple_type n) (declared_number (simple (terminal t n))) (cond (bound t b type n) (get_or column (declaration b n) 0) 0)

-- the type d (K2), by its first node: an enumeration, what it renames, or a select
unfoldable pub type_number : Table → List ℕ → List ℕ → ℕ → ℕ
type_number t b column d =
    cond (is t enumeration_item (first t d)) (enumeration_number d) (cond (renames t d) (base_number t b column (first t d)) 0)

-- a number is stored at a node that passes the test
abbrev pub store : (ℕ → Bool) → (List ℕ → ℕ → ℕ) → List ℕ → ℕ → List ℕ
store p number column n = cond (p n) (set column n (number column n)) column

-- the items of a type d that is an enumeration: all of its nodes that are some
unfoldable pub type_items_stored : Table → List ℕ → ℕ → List ℕ
type_items_stored t column d =
    cond (is_enumeration t d) (foldl (store (is t enumeration_item) (λ column n. enumeration_number d)) column (span (first t d) (d - first t d))) column

-- a type d, after its items
unfoldable pub type_stored : Table → List ℕ → List ℕ → ℕ → List ℕ
type_stored t b column d = store (is t type) (type_number t b) (type_items_stored t column d) d

unfoldable pub constant_stored : Table → List ℕ → List ℕ → ℕ → List ℕ
constant_stored t b = store (is t constant) (λ column c. base_number t b column (type_node t c))

-- all types with their items, and all constants, as the declarations stand in an order
unfoldable pub types_stored : Table → List ℕ → List ℕ → List ℕ → List ℕ
types_stored t b order column = foldl (type_stored t b) column order

unfoldable pub constants_stored : Table → List ℕ → List ℕ → List ℕ → List ℕ
constants_stored t b order column = foldl (constant_stored t b) column order
