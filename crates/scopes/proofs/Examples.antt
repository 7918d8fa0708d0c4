-- A file with one schema, computed: ENTITY with an attribute, TYPE with two items, CONSTANT. The declarations come first.
use mathlib.Core.Path.{◌≡◌, refl}
use mathlib.Core.List.{List, [], ◌∷◌}
use Prim.Native.Nat.{ℕ, zero, suc, ◌<◌}
use native.Mathlib.Omega.{arith}
use Rattle.relations.specs.Select.{span, first_from, keep}
use Rattle.express.specs.Syntax.NodeKind.{enumeration_item, enumeration, constant, type, attribute_name, entity, schema, file}
use Rattle.express.specs.Syntax.Tree.{Table, owner, schema_of, token, symbol}
use Rattle.express.specs.Names.Fault.{sort, scope}
use Rattle.scopes.specs.Entries.{radix, key_of, entries, vertex}
use Rattle.scopes.specs.Standing.{table_of}
use Rattle.scopes.specs.Preparation.{Consistent, nodes_of, keys_of}

-- token and symbol of node n are n
abbrev small_file : Table
small_file =
    let numbers : List ℕ = 0 ∷ 1 ∷ 2 ∷ 3 ∷ 4 ∷ 5 ∷ 6 ∷ 7 ∷ 8 ∷ [] in
    table_of (attribute_name ∷ entity ∷ enumeration_item ∷ enumeration_item ∷ enumeration ∷ type ∷ constant ∷ schema ∷ file ∷ []) numbers
    (0 ∷ 0 ∷ 0 ∷ 0 ∷ 0 ∷ 0 ∷ 0 ∷ 0 ∷ 0 ∷ []) numbers

its_nodes : nodes_of (entries small_file) ≡ 1 ∷ 5 ∷ 6 ∷ 0 ∷ 2 ∷ 3 ∷ 7 ∷ []
unfolding entries keep span sort scope owner schema_of first_from
its_nodes = refl

its_keys :
    keys_of (entries small_file) ≡
    key_of 2 7 1 ∷ key_of 2 7 5 ∷ key_of 2 7 6 ∷ key_of 4 1 0 ∷ key_of 3 5 2 ∷ key_of 3 5 3 ∷ key_of 1 0 7 ∷ []
unfolding entries keep span sort scope owner schema_of first_from
its_keys = refl

its_vertex : vertex small_file 6 ≡ 2
unfolding vertex keep span
its_vertex = refl

below_nine : (P : ℕ → Type 0) → P 0 → P 1 → P 2 → P 3 → P 4 → P 5 → P 6 → P 7 → P 8 → (n : ℕ) → n < 9 → P n
below_nine P a b c d e f g h i zero l = a
below_nine P a b c d e f g h i (suc zero) l = b
below_nine P a b c d e f g h i (suc (suc zero)) l = c
below_nine P a b c d e f g h i (suc (suc (suc zero))) l = d
below_nine P a b c d e f g h i (suc (suc (suc (suc zero)))) l = e
below_nine P a b c d e f g h i (suc (suc (suc (suc (suc zero))))) l = f
below_nine P a b c d e f g h i (suc (suc (suc (suc (suc (suc zero)))))) l = g
below_nine P a b c d e f g h i (suc (suc (suc (suc (suc (suc (suc zero))))))) l = h
below_nine P a b c d e f g h i (suc (suc (suc (suc (suc (suc (suc (suc zero)))))))) l = i
below_nine P a b c d e f g h i (suc (suc (suc (suc (suc (suc (suc (suc (suc n))))))))) l = absurd (omega arith)

its_columns : Consistent small_file
its_columns =
    record {
      few = omega arith;
      tokens = omega arith;
      roles = omega arith;
      inside =
          below_nine (λ n. token small_file n < 9) (omega arith) (omega arith) (omega arith) (omega arith) (omega arith) (omega arith) (omega arith) (omega arith) (omega arith);
      small =
          below_nine (λ n. symbol small_file n < radix) (omega arith) (omega arith) (omega arith) (omega arith) (omega arith) (omega arith) (omega arith) (omega arith)
          (omega arith);
    }
