-- What an entry of a table by symbol says: a stamp, and a meaning in 17 bits that counts under this stamp alone.
use Rattle.std.specs.Prelude.{cond, List, ℕ, ◌+◌, ◌*◌, ◌/◌, ◌%◌, eqb, get_or}
use Rattle.express.specs.Names.Scope.{Meaning, none, one, several}

abbrev pub several_code : ℕ
several_code = 4294967295

-- a meaning (N11) in 32 bits: none, one more than a node, or several
abbrev pub code : Meaning → ℕ
code none = 0
code (one k) = k + 1
code several = several_code

-- ---- in an entry

abbrev pub code_count : ℕ
code_count = 131072

abbrev pub stamp_count : ℕ
stamp_count = 32768

-- several have the last code
abbrev pub several_held : ℕ
several_held = 131071

-- so these are the nodes that an entry can hold
abbrev pub node_limit : ℕ
node_limit = 131070

abbrev pub stamp_of : ℕ → ℕ
stamp_of entry = entry / code_count

-- the code of an entry under a stamp: none, if it has another one
abbrev pub held : ℕ → ℕ → ℕ
held stamp entry = cond (eqb (stamp_of entry) stamp) (entry % code_count) 0

-- a code with one node more
abbrev pub joined : ℕ → ℕ → ℕ
joined code node = cond (eqb code 0) (node + 1) several_held

-- a code of an entry in 32 bits
abbrev pub widened : ℕ → ℕ
widened code = cond (eqb code several_held) several_code code

-- the entry with one node more under a stamp
abbrev pub entry_with : ℕ → ℕ → ℕ → ℕ
entry_with stamp entry node = stamp * code_count + joined (held stamp entry) node

-- what a table says of a symbol under a stamp
abbrev pub says : List ℕ → ℕ → ℕ → ℕ
says table stamp symbol = widened (held stamp (get_or table symbol 0))
