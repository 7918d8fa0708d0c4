-- THE ROOM FOR THE NAMES of a file with at most n tokens, in arrays whose sizes go by n.
use mathlib.Core.Path.{◌≡◌, sym, ap, ◌∙◌}
use mathlib.Core.Bool.{true}
use Prim.Native.Nat.{ℕ, ◌*◌, ◌≤◌, ◌<◌}
use native.Mathlib.Omega.{arith}
use borrow.Author.Tests.{le-leb, lt-ltb, ne_eqb}
use lib.ListN.{length, get_or, length-map}
use Rattle.express.specs.Tokens.Lexis.{TokenRow, most, lexed}
use Rattle.express.specs.Tokens.Scanned.{Scanned}
use Rattle.express.specs.Syntax.Grammar.{file}
use Rattle.express.specs.Syntax.Syntax.{Read}
use Rattle.express.specs.Syntax.Tree.{Table, count}
use Rattle.index.specs.Room.{enough}
use Rattle.scopes.specs.Entries.{entries}
use Rattle.scopes.specs.Range.{vertex_count}
use Rattle.bounds.proofs.Bounds.{nodes_few, vertices_few}
use Rattle.bounds.proofs.Consistent.{starts_long, consistent_file}
use Rattle.names.specs.Resolution.{NamesRoom}

-- sizes of arrays for a file of at most n tokens, which has at most n nodes, n / 2 entries of the dictionary and n / 5 declarations
pub record Sizes (n roles symbols keys nodes heads next first to scratch : ℕ) : Type 0 where
  pub small : n ≤ most
  pub roles_fit : n ≤ roles
  pub symbols_fit : n ≤ symbols
  pub keys_fit : n ≤ 2 * keys
  pub nodes_fit : n ≤ 2 * nodes
  pub heads_fit : 0 < heads
  pub next_fit : n ≤ 2 * next
  pub first_fit : n < 5 * first
  pub to_fit : n ≤ 2 * to
  pub to_small : to < 4294967296
  pub links_fit : n ≤ scratch
  pub search_fit : 6 * n < 5 * scratch

room_for_symbols : (starts lengths symbols heads links : ℕ) → starts ≤ lengths → starts ≤ symbols → 0 < heads → starts ≤ links → starts < 4294967295 →
    enough starts lengths symbols heads links ≡ true
room_for_symbols starts lengths symbols heads links a b c d e =
    rw (le-leb starts lengths a, le-leb starts symbols b, ne_eqb heads 0 (λ z. omega (arith, z)), le-leb starts links d, lt-ltb starts 4294967295 e)

module _ {t : Table} (R : Read file t) (S : Scanned t) where
  lengths_long : length t.lengths ≡ length t.starts
  lengths_long =
      ap length S.lengths_are ∙ length-map (lexed t.bytes).rows (λ (r : TokenRow). r.size)
      ∙ sym (ap length S.starts_are ∙ length-map (lexed t.bytes).rows (λ (r : TokenRow). r.start))

  pub names_room : {n roles symbols keys nodes heads next first to types constants scratch : ℕ} → Sizes n roles symbols keys nodes heads next first to scratch →
      length t.starts ≤ n → vertex_count t ≤ types → vertex_count t ≤ constants →
      2 * length (entries t) ≤ length t.terminals → ((i : ℕ) → i < count t → get_or t.roles i 0 < 256) →
      NamesRoom t roles symbols keys nodes heads next first to types constants scratch
  names_room {symbols = symbols} {heads = heads} {scratch = scratch} Z few a b half bytes =
      let l = starts_long R S in
      let v = vertices_few R in
      let m = nodes_few R in
      record {
        symbol_room = room_for_symbols (length t.starts) (length t.lengths) symbols heads scratch (omega (arith, lengths_long)) (omega (arith, Z.symbols_fit)) Z.heads_fit
            (omega (arith, Z.links_fit)) (omega (arith, Z.small));
        consistent = consistent_file R S (omega (arith, Z.small));
        role_room = omega (arith, Z.roles_fit);
        small_roles = bytes;
        entry_room = record {
          keys_room = omega (arith, Z.keys_fit);
          nodes_room = omega (arith, Z.nodes_fit);
          heads_room = Z.heads_fit;
          next_room = omega (arith, Z.next_fit);
        };
        stage_room = record {
          few = omega (arith, Z.small);
          first_room = omega (arith, Z.first_fit);
          to_room = omega (arith, Z.to_fit);
          to_small = Z.to_small;
          types_room = a;
          constants_room = b;
          search_room = omega (arith, Z.search_fit);
          table_room = omega (arith, Z.search_fit);
        };
      }
