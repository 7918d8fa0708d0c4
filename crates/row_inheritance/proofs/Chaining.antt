-- The attributes of the entities that are reached, chained from the last declaration to the first.
use mathlib.Core.Path.{◌≡◌, refl, sym, ap, ◌∙◌}
use mathlib.Core.Bool.{Bool, true, false, ◌&&◌, not}
use mathlib.Core.List.{List, ◌++◌}
use Prim.Native.Nat.{ℕ, suc, ◌+◌, ◌-◌, ◌*◌, ◌≤◌, ◌<◌}
use native.Mathlib.Omega.{arith}
use lib.Dec.{eqb}
use lib.ListN.{length, get_or}
use Rattle.relations.specs.Select.{keep}
use Rattle.express.specs.Syntax.Tree.{Table, symbol}
use Rattle.scopes.specs.Entries.{vertex}
use Rattle.scopes.specs.Range.{vertex_count}
use Rattle.scopes.proofs.Ranges.{node_number}
use Rattle.attributes.specs.Attributes.{offset_of, start_in, Back, attributes_between, attributes_of}
use Rattle.attributes.proofs.Offsets.{offset_rises, offset_within, back_offset, range_attributes, entry_fits, entry_owner}
use Rattle.bit_rows.specs.Bits.{bit}
use Rattle.attribute_chains.specs.Chains.{link_count, end, Chained, EntersEntries}
use Rattle.row_inheritance.specs.Ranks.{rank_in}
use Rattle.row_inheritance.specs.Steps.{wanted, wanted_attributes, rank_of, Chainable, ChainsAttributes}
use Rattle.row_inheritance.proofs.Ranking.{rank_within, rank_tells, before_few}
use Rattle.row_inheritance.proofs.Reached.{wanted_more, wanted_same}

-- what is chained of the declarations from v on
record ChainedFrom (t : Table) (kinds nodes rows table pairs : List ℕ) (count e v : ℕ) : Type 0 where
  from : e ≡ offset_of t v
  few : count + e ≤ length nodes
  ranks : (w : ℕ) → w < vertex_count t → get_or table (length t.symbols + w) 0 ≡ rank_in kinds nodes w
  chained : 2 * count ≤ length pairs → Chained (rank_of t kinds nodes) (symbol t) (length t.symbols) count table pairs (wanted_attributes t (wanted kinds nodes rows) (vertex_count t - v))

pub record Chaining (kinds keys nodes rows : List ℕ) (symbols declarations : ℕ) (table₁ pairs₁ table pairs : List ℕ) (count e v : ℕ) : Type 0 where
  pub long : length table ≡ length table₁
  pub pairs_long : length pairs ≡ length pairs₁
  pub upto : v ≤ declarations
  is : (t : Table) → Chainable t kinds keys nodes symbols declarations table₁ → ChainedFrom t kinds nodes rows table pairs count e v

offset_low : (t : Table) (v : ℕ) → vertex_count t ≤ offset_of t v
unfolding offset_of
offset_low t v = omega arith

module _ {kinds keys nodes rows : List ℕ} {symbols declarations : ℕ} where
  pub chaining_starts : {table pairs : List ℕ} {from e : ℕ} → from ≡ start_in nodes declarations → Back nodes declarations (length nodes) from e
      → Chaining kinds keys nodes rows symbols declarations table pairs table pairs 0 e declarations
  unfolding wanted_attributes keep
  chaining_starts {table} {pairs} {from} {e} p B =
      record {
        long = refl;
        pairs_long = refl;
        upto = omega arith;
        is =
            λ t c.
            let n = c.so_many in
            let B' : Back nodes (vertex_count t) (length nodes) (start_in nodes (vertex_count t)) e = rw (p, n) at B in
            let w = offset_within c.prepared (vertex_count t) (omega arith) in
            let f : e ≡ offset_of t (vertex_count t) = back_offset c.prepared (omega arith) w (omega arith) B' in
            let none : vertex_count t - vertex_count t ≡ 0 = omega arith in
            rw n
            (record {
              from = f;
              few = omega (arith, f, w);
              ranks = c.ranks;
              chained = λ _. rw none (record { known = λ s l. omega (arith, c.zeros s l); is = λ s l. let z = c.zeros s l in rw z end });
            });
      }

  module _ {table₁ pairs₁ table pairs : List ℕ} {count e v : ℕ} (s : Chaining kinds keys nodes rows symbols declarations table₁ pairs₁ table pairs count e v) where
    pub chaining_ends : v ≤ 0 → ChainsAttributes kinds keys nodes rows symbols declarations table₁ pairs₁ count table pairs
    chaining_ends l =
        record {
          is =
              λ t c room.
              let F = s.is t c in
              let z : vertex_count t - v ≡ vertex_count t = omega arith in
              record { total = count; ranks = F.ranks; chained = rw z at (F.chained (omega (arith, s.pairs_long))) };
        }

    module _ (l : 0 < v) {from e' rank i : ℕ} {a b : Bool} (p : from ≡ start_in nodes (v - 1)) (B : Back nodes declarations e from e') (r : rank ≡ get_or table (symbols + (v - 1)) 0)
        (q : i ≡ rank) (h : a ≡ bit rows i) (g : b ≡ (not (eqb rank 0) && a)) where
      module _ {t : Table} (c : Chainable t kinds keys nodes symbols declarations table₁) where
        F : ChainedFrom t kinds nodes rows table pairs count e v
        F = s.is t c

        below : v - 1 < vertex_count t
        below = omega (arith, s.upto, c.so_many)

        back_one : v - 1 + 1 ≡ v
        back_one = omega arith

        begins : e' ≡ offset_of t (v - 1)
        begins =
            let n = c.so_many in
            let B' : Back nodes (vertex_count t) e (start_in nodes (v - 1)) e' = rw (p, n) at B in
            back_offset c.prepared (omega (arith, below))
            (omega (arith, F.from, rw back_one at (offset_rises t (v - 1) below))) (omega (arith, F.few)) B'

        ranked : rank ≡ rank_in kinds nodes (v - 1)
        ranked = r ∙ ap (λ (n : ℕ). get_or table (n + (v - 1)) 0) c.named ∙ F.ranks (v - 1) below

        tells : b ≡ wanted kinds nodes rows (v - 1)
        tells =
            g ∙ ap (λ (x : Bool). not (eqb rank 0) && x) (h ∙ ap (bit rows) (q ∙ ranked))
            ∙ ap (λ (x : ℕ). not (eqb x 0) && bit rows (rank_in kinds nodes (v - 1))) ranked
            ∙ ap (λ (x : Bool). x && bit rows (rank_in kinds nodes (v - 1))) (rank_tells kinds nodes (v - 1))

        -- the entries between two offsets are those of one declaration
        owned_rank : (k : ℕ) → offset_of t (v - 1) ≤ k → k < offset_of t (v - 1 + 1) → rank_of t kinds nodes (get_or nodes k 0) ≡ rank
        unfolding rank_of
        owned_rank k f g =
            ap (rank_in kinds nodes) (ap (vertex t) (entry_owner c.prepared (v - 1) below k f g) ∙ node_number t (v - 1) below) ∙ sym ranked

        mine : attributes_between kinds nodes (offset_of t (v - 1)) (offset_of t (v - 1 + 1)) ≡ attributes_of t (v - 1)
        mine =
            ap (λ (ks : List ℕ). attributes_between ks nodes (offset_of t (v - 1)) (offset_of t (v - 1 + 1))) (sym c.kinds_are)
            ∙ range_attributes c.prepared (v - 1) below

        last : vertex_count t - suc (vertex_count t - v) ≡ v - 1
        last = omega (arith, below)

        one_more : vertex_count t - (v - 1) ≡ suc (vertex_count t - v)
        one_more = omega (arith, below)

      pub chaining_skip : b ≡ false → Chaining kinds keys nodes rows symbols declarations table₁ pairs₁ table pairs count e' (v - 1)
      chaining_skip z =
          record {
            long = s.long;
            pairs_long = s.pairs_long;
            upto = omega (arith, s.upto);
            is =
                λ t c.
                let no : wanted kinds nodes rows (vertex_count t - suc (vertex_count t - v)) ≡ false = ap (wanted kinds nodes rows) (last c) ∙ sym (tells c) ∙ z in
                let same = ap (wanted_attributes t (wanted kinds nodes rows)) (one_more c) ∙ wanted_same t (wanted kinds nodes rows) (vertex_count t - v) no in
                record {
                  from = begins c;
                  few = omega (arith, (F c).few, B.upto);
                  ranks = (F c).ranks;
                  chained = λ room. rw same ((F c).chained room);
                };
          }

      pub chaining_more : {count' : ℕ} {table' pairs' : List ℕ} → b ≡ true → EntersEntries kinds keys nodes e' e rank count table pairs count' table' pairs'
          → length table' ≡ length table → length pairs' ≡ length pairs → Chaining kinds keys nodes rows symbols declarations table₁ pairs₁ table' pairs' count' e' (v - 1)
      chaining_more {count'} {table'} {pairs'} z E x y =
          record {
            long = x ∙ s.long;
            pairs_long = y ∙ s.pairs_long;
            upto = omega (arith, s.upto);
            is = λ t c. more t c;
          }
        where
          more : (t : Table) → Chainable t kinds keys nodes symbols declarations table₁ → ChainedFrom t kinds nodes rows table' pairs' count' e' (v - 1)
          more t c =
              let o = F c in
              let u = begins c in
              let w : e ≡ offset_of t (v - 1 + 1) = o.from ∙ ap (offset_of t) (sym (back_one c)) in
              let low = offset_low t (v - 1) in
              let few : count + (e - e') < link_count = omega (arith, o.few, u, low, c.few_entries, B.upto) in
              let E' : EntersEntries kinds keys nodes (offset_of t (v - 1)) (offset_of t (v - 1 + 1)) rank count table pairs count' table' pairs' = rw (u, w) at E in
              let fits = entry_fits c.prepared (v - 1) (below c) c.scanned in
              let few' : count + (offset_of t (v - 1 + 1) - offset_of t (v - 1)) < link_count = rw (u, w) at few in
              let yes : wanted kinds nodes rows (vertex_count t - suc (vertex_count t - v)) ≡ true = ap (wanted kinds nodes rows) (last c) ∙ sym (tells c) ∙ z in
              let all = ap (wanted_attributes t (wanted kinds nodes rows)) (one_more c) ∙ wanted_more t (wanted kinds nodes rows) (vertex_count t - v) yes
              ∙ ap (λ (n : ℕ). attributes_of t n ++ wanted_attributes t (wanted kinds nodes rows) (vertex_count t - v)) (last c)
              ∙ ap (λ (ns : List ℕ). ns ++ wanted_attributes t (wanted kinds nodes rows) (vertex_count t - v)) (sym (mine c)) in
              record {
                from = u;
                few = omega (arith, (E.few few).1, o.few, B.upto);
                ranks = λ w k. E'.behind (symbol t) (length t.symbols) fits (length t.symbols + w) (omega arith) ∙ o.ranks w k;
                chained =
                    λ room.
                    rw all
                    (E'.is (rank_of t kinds nodes) (symbol t) (length t.symbols) _ few'
                    (omega (arith, ranked c, rank_within kinds nodes (v - 1) (vertex_count t) (below c), before_few kinds nodes (vertex_count t), c.few))
                    (omega (arith, c.long, s.long)) (omega (arith, room, y)) fits (owned_rank c) (o.chained (omega (arith, room, y, (E.few few).0))));
              }
