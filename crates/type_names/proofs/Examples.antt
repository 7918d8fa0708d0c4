-- The names of types of a small file, computed: one that is right, one of the wrong sort, one that is declared in another schema.
use mathlib.Core.Path.{◌≡◌, refl}
use mathlib.Core.List.{[], ◌∷◌, map}
use Rattle.relations.specs.Select.{span, first_from, keep}
use Rattle.express.specs.Syntax.NodeKind.{name, simple_type, type, attribute_name, attribute_group, entity, schema, file, type_name, renamed_type, supertype_name}
use Rattle.express.specs.Syntax.Tree.{Table, nodes, schema_of}
use Rattle.express.specs.Names.Scope.{declarations, means, binding}
use Rattle.express.specs.Names.Fault.{fault, type_name_fault}
use Rattle.express.specs.Names.Names.{least}
use Rattle.scopes.specs.Entries.{vertex}
use Rattle.type_names.specs.TypeName.{type_names}

-- SCHEMA s; TYPE a = INTEGER; ENTITY e; x : a; ENTITY f SUBTYPE OF (a); SCHEMA u; TYPE b = a. The token of node n is n; its symbol is n too, but of names
-- that of a.
abbrev small_file : Table
small_file =
    record {
      bytes = [];
      starts = 0 ∷ 1 ∷ 2 ∷ 3 ∷ 4 ∷ 5 ∷ 6 ∷ 7 ∷ 8 ∷ 9 ∷ 10 ∷ 11 ∷ 12 ∷ [];
      lengths = [];
      terminals = [];
      symbols = 0 ∷ 1 ∷ 1 ∷ 3 ∷ 4 ∷ 5 ∷ 1 ∷ 7 ∷ 8 ∷ 1 ∷ 10 ∷ 11 ∷ 12 ∷ [];
      kinds = simple_type ∷ type ∷ name ∷ attribute_name ∷ attribute_group ∷ entity ∷ name ∷ entity ∷ schema ∷ name ∷ type ∷ schema ∷ file ∷ [];
      tokens = 0 ∷ 1 ∷ 2 ∷ 3 ∷ 4 ∷ 5 ∷ 6 ∷ 7 ∷ 8 ∷ 9 ∷ 10 ∷ 11 ∷ 12 ∷ [];
      sizes = [];
      roles = 0 ∷ 0 ∷ type_name ∷ 0 ∷ 0 ∷ 0 ∷ supertype_name ∷ 0 ∷ 0 ∷ renamed_type ∷ 0 ∷ 0 ∷ 0 ∷ [];
    }

its_reply : least (type_name_fault small_file) (nodes small_file) ≡ fault 11 6
unfolding least type_name_fault means declarations schema_of first_from keep span
its_reply = refl

-- what is declared in another schema is not found
its_unknown_name : type_name_fault small_file 9 ≡ fault 10 9
unfolding type_name_fault means declarations schema_of first_from keep span
its_unknown_name = refl

-- a is node 1
its_bindings : map (type_names small_file).entry (nodes small_file) ≡ 0 ∷ 0 ∷ 2 ∷ 0 ∷ 0 ∷ 0 ∷ 2 ∷ 0 ∷ 0 ∷ 0 ∷ 0 ∷ 0 ∷ 0 ∷ []
unfolding binding means declarations schema_of first_from keep span
its_bindings = refl

-- and vertex 0; the type of an attribute makes no arc
its_targets : map (type_names small_file).target (nodes small_file) ≡ 0 ∷ 0 ∷ 0 ∷ 0 ∷ 0 ∷ 0 ∷ 1 ∷ 0 ∷ 0 ∷ 0 ∷ 0 ∷ 0 ∷ 0 ∷ []
unfolding vertex means declarations schema_of first_from keep span
its_targets = refl
