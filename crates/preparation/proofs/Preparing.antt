-- The dictionary as a whole: refused with nothing written, or at the front of the columns.
use mathlib.Core.Path.{◌≡◌, refl, sym, ap, ◌∙◌}
use mathlib.Core.Bool.{Bool, true, not, ◌&&◌}
use mathlib.Core.List.{List}
use Prim.Native.Nat.{ℕ, ◌+◌, ◌*◌, ◌≤◌, ◌<◌}
use native.Mathlib.Omega.{arith}
use borrow.Author.Tests.{not-true, ne_eqb, le-leb, lt-ltb}
use lib.Dec.{eqb, leb, ltb}
use lib.ListN.{length, take, length-append, length-map, length-take}
use lib.Seq.{sets, length-sets}
use Rattle.columns.proofs.Laws.{take_rows}
use Rattle.relations.specs.Select.{keep}
use Rattle.relations.proofs.Select.{and_both}
use Rattle.express.specs.Syntax.Tree.{Table, count, nodes, is_declaration}
use Rattle.index.specs.Dictionary.{Builds}
use Rattle.index.specs.Room.{done}
use Rattle.std.specs.Prelude.{Result}
use Rattle.index.specs.declared.Short.{Short}
use Rattle.scopes.specs.Entries.{radix, Entry, own_entry, declares_other, declaring, entries, vertex, others_before}
use Rattle.scopes.specs.Standing.{Counted}
use Rattle.scopes.specs.Preparation.{Consistent, Room, Prepares, Refused, Decides, Filled, keys_of, nodes_of}
use Rattle.scopes.specs.declared.Counts.{Counts}
use Rattle.scopes.proofs.Passing.{vertex_small, others_small}

pub entries_total : (t : Table) → length (entries t) ≡ vertex t (count t) + others_before t (count t)
unfolding entries vertex others_before
entries_total t = length-map (declaring t) (own_entry t) ∙ length-append (keep (is_declaration t) (nodes t)) (keep (declares_other t) (nodes t))

module _ {t : Table} {c : Counts} (C : Counted t (count t) c) where
  total : c.declarations + c.others ≡ length (entries t)
  total = omega (arith, C.declarations_is, C.others_is, entries_total t)

  pub total_small : Consistent t → c.declarations + c.others < 2 * radix
  total_small ok = omega (arith, C.declarations_is, C.others_is, vertex_small t (count t), others_small t (count t), ok.few)

module _ {t : Table} (keys nodes heads next : List ℕ) where
  pub refused_columns : {r : Bool} → Decides (Consistent t) r → not r ≡ true → Refused t keys nodes heads next keys nodes heads next
  refused_columns D e = record { no = λ ok room. D.no (not-true _ e) ok; keys_kept = refl; nodes_kept = refl; heads_kept = refl; next_kept = refl }

  module _ {c : Counts} (C : Counted t (count t) c) where
    pub refused_room :
        {r : Bool} → Decides (Room (c.declarations + c.others) (length keys) (length nodes) (length heads) (length next)) r → not r ≡ true → Refused t keys nodes heads next keys nodes heads next
    refused_room D e =
        record { no = λ ok room. D.no (not-true _ e) (rw (total C) room); keys_kept = refl; nodes_kept = refl; heads_kept = refl; next_kept = refl }

    module _ (room : Room (c.declarations + c.others) (length keys) (length nodes) (length heads) (length next)) {keys' : List ℕ} (F : Filled (λ (e : Entry). e.key) t keys keys') where
      pub prefix_fits : c.declarations + c.others ≤ length keys'
      prefix_fits = omega (arith, room.keys_room, ap length F.is, length-sets keys 0 (keys_of (entries t)))

      pub prefix_long : c.declarations + c.others ≡ length (take (c.declarations + c.others) keys')
      prefix_long = omega (arith, prefix_fits, length-take (c.declarations + c.others) keys')

      pub prepares :
          {nodes' heads' next' : List ℕ} {r : Result (Unit {0}) Short} → Consistent t → Filled (λ (e : Entry). e.node) t nodes nodes' →
          Builds (take (c.declarations + c.others) keys') heads next r heads' next' → Prepares t keys nodes keys' nodes' heads' next'
      prepares {nodes'} {heads'} {next'} {r} ok G B =
          record {
            prepared = record { consistent = ok; keys_is = front_keys; nodes_is = front_nodes; indexed = rw (total C) at (B.indexed all) };
            keys_kept = F.is;
            nodes_kept = G.is;
          }
        where
          n : ℕ
          n = length (entries t)

          key_rows : length (keys_of (entries t)) ≡ n
          key_rows = length-map (entries t) (λ (e : Entry). e.key)

          node_rows : length (nodes_of (entries t)) ≡ n
          node_rows = length-map (entries t) (λ (e : Entry). e.node)

          front_keys : take n keys' ≡ keys_of (entries t)
          front_keys =
              ap (take n) F.is
              ∙ ap (λ (m : ℕ). take m (sets keys 0 (keys_of (entries t)))) (sym key_rows)
              ∙ take_rows keys (keys_of (entries t)) (omega (arith, key_rows, total C, room.keys_room))

          front_nodes : take n nodes' ≡ nodes_of (entries t)
          front_nodes =
              ap (take n) G.is
              ∙ ap (λ (m : ℕ). take m (sets nodes 0 (nodes_of (entries t)))) (sym node_rows)
              ∙ take_rows nodes (nodes_of (entries t)) (omega (arith, node_rows, total C, room.nodes_room))

          long : ℕ
          long = length (take (c.declarations + c.others) keys')

          all : done r ≡ true
          all =
              B.answer
              ∙ and_both (not (eqb (length heads) 0)) (leb long (length next) && ltb long 4294967295)
              (ap not (ne_eqb (length heads) 0 (λ q. omega (arith, q, room.heads_room))))
              (and_both (leb long (length next)) (ltb long 4294967295) (le-leb long (length next) (omega (arith, prefix_long, room.next_room)))
              (lt-ltb long 4294967295 (omega (arith, prefix_long, total_small C ok))))
