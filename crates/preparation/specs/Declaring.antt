-- Which nodes are looked at when entries are stored.
use Rattle.std.specs.Prelude.{Bool, ◌&&◌, ◌||◌, ℕ, eqb, leb}
use Rattle.express.specs.Syntax.NodeKind.{name, enumeration_item, supertype_name}

-- the kinds that may declare something (N1): the name of a supertype, and those from items on
abbrev pub may_declare : ℕ → ℕ → Bool
may_declare k r = (eqb k name && eqb r supertype_name) || leb enumeration_item k
