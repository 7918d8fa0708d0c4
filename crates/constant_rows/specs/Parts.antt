-- An order of declarations in which those of a schema stand together.
use Rattle.std.specs.Prelude.{Bool, true, ◌&&◌, List, [], ◌∷◌, map, ℕ, ◌-◌, eqb, leb, ltb, length, get_or}
use Rattle.relations.specs.Select.{first_from}
use Rattle.express.specs.Syntax.NodeKind as node

-- the schema that a node is or lies in: the first from it on; past the last schema the number of nodes
abbrev pub schema_in : List ℕ → ℕ → ℕ
schema_in kinds n = first_from (λ m. eqb (get_or kinds m 0) node.schema) n (length kinds - n)

-- numbers up to n, none less than s or than one before it
unfoldable pub never_falls : ℕ → ℕ → List ℕ → Bool
never_falls n s [] = true
never_falls n s (x ∷ xs) = let later = never_falls n x xs in leb s x && (leb x n && later)

-- the schemas of an order's declarations stand as in the text
abbrev pub grouped : List ℕ → List ℕ → Bool
grouped kinds order = never_falls (length kinds) 0 (map (schema_in kinds) order)

-- there is a schema from a node on, and the order is grouped
abbrev pub parts : List ℕ → List ℕ → ℕ → Bool
parts kinds order behind = ltb (schema_in kinds behind) (length kinds) && grouped kinds order
