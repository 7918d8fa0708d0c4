-- Two types that rename each other, and two constants of which one names the other, computed.
use mathlib.Core.Path.{◌≡◌, refl}
use mathlib.Core.List.{[], ◌∷◌}
use Rattle.relations.specs.Select.{span, first_from, keep}
use Rattle.express.specs.Syntax.NodeKind.{integer_literal, name, in_expression, renamed_type, simple_type, constant, type, schema, file}
use Rattle.express.specs.Syntax.Tree.{Table, owner, schema_of}
use Rattle.express.specs.Names.Scope.{declarations, items, own, inherited, candidates, means}
use Rattle.scopes.specs.Entries.{vertex}
use Rattle.scopes.specs.Standing.{table_of}
use Rattle.dependencies.specs.Target.{led_to, led_to_from, type_target, constant_target}

-- CONSTANT i : INTEGER := 1; j : INTEGER := i; TYPE a = b; TYPE b = a. The symbol of node n is n, but of names that of what they mean.
abbrev small_file : Table
small_file =
    table_of
    (simple_type ∷ integer_literal ∷ constant ∷ simple_type ∷ name ∷ constant ∷ name ∷ type ∷ name ∷ type ∷ schema ∷ file ∷ [])
    (0 ∷ 1 ∷ 2 ∷ 3 ∷ 4 ∷ 5 ∷ 6 ∷ 7 ∷ 8 ∷ 9 ∷ 10 ∷ 11 ∷ [])
    (0 ∷ 0 ∷ 0 ∷ 0 ∷ in_expression ∷ 0 ∷ renamed_type ∷ 0 ∷ renamed_type ∷ 0 ∷ 0 ∷ 0 ∷ [])
    (0 ∷ 1 ∷ 2 ∷ 3 ∷ 2 ∷ 5 ∷ 9 ∷ 7 ∷ 7 ∷ 9 ∷ 10 ∷ 11 ∷ [])

-- the vertices are i, j, a, b
its_type_arcs : led_to_from small_file (type_target small_file) 0 ≡ 3 ∷ 2 ∷ []
unfolding led_to keep span vertex means declarations schema_of first_from
its_type_arcs = refl

its_constant_arcs : led_to_from small_file (constant_target small_file) 0 ≡ 0 ∷ []
unfolding led_to keep span vertex means candidates own inherited declarations items owner schema_of first_from
its_constant_arcs = refl
