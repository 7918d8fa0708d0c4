-- A table with more columns: names are looked up by its kinds, tokens, roles and symbols alone.
use mathlib.Core.Path.{◌≡◌, refl, ap, ◌∙◌}
use mathlib.Core.List.{List}
use Prim.Native.Nat.{ℕ}
use Rattle.express.specs.Syntax.Tree.{Table, owner, schema_of}
use Rattle.express.specs.Names.Fault.{sort, scope}
use Rattle.scopes.specs.Entries.{entries, vertex, others_before}
use Rattle.scopes.specs.Standing.{table_of, Counted}
use Rattle.scopes.specs.Preparation.{Prepared, keys_of, nodes_of}
use Rattle.scopes.specs.declared.Counts.{Counts}

abbrev pub columns_of : Table → Table
columns_of t = table_of t.kinds t.tokens t.roles t.symbols

pub same_entries : (t : Table) → entries (columns_of t) ≡ entries t
unfolding entries sort scope owner schema_of
same_entries t = refl

pub prepared_for : (t : Table) {keys nodes heads next : List ℕ} → Prepared (columns_of t) keys nodes heads next → Prepared t keys nodes heads next
prepared_for t P =
    record {
      consistent =
          record {
            few = P.consistent.few;
            tokens = P.consistent.tokens;
            roles = P.consistent.roles;
            inside = P.consistent.inside;
            small = P.consistent.small;
          };
      keys_is = P.keys_is ∙ ap keys_of (same_entries t);
      nodes_is = P.nodes_is ∙ ap nodes_of (same_entries t);
      indexed = P.indexed;
    }

pub counted_for : (t : Table) {n : ℕ} {c : Counts} → Counted (columns_of t) n c → Counted t n c
unfolding vertex others_before sort scope owner schema_of
counted_for t C = record { declarations_is = C.declarations_is; others_is = C.others_is }
