-- The rows of entities, by their ranks in a table.
use mathlib.Core.Path.{◌≡◌, sym, ap, ◌∙◌}
use mathlib.Core.Bool.{Bool, true}
use mathlib.Core.List.{List, ◌++◌}
use Prim.Native.Nat.{ℕ, ◌+◌, ◌-◌, ◌*◌, ◌/◌, ◌%◌, ◌^◌, ◌≤◌, ◌<◌}
use native.Mathlib.Nat.{suc-mul, mul-le-mul}
use native.Mathlib.Numerals.{add-one}
use lib.Dec.{eqb}
use native.Mathlib.Decide.{dec_lt}
use mathlib.Core.Logic.{by_cases}
use native.Mathlib.Omega.{arith}
use Rattle.std.specs.Prelude.{Some, None}
use Rattle.std.proofs.lemmas.Option.{none-some, same_Some}
use lib.ListN.{length, get_or, take, drop, get_or-append, get_or-eq_default}
use lib.Seq.{get_or-take}
use Rattle.graph.specs.Graph.{vertices}
use Rattle.graph.proofs.Arcs.{arc_target}
use Rattle.bit_rows.specs.Bits.{word, bit}
use Rattle.ancestors.specs.Rows.{width_limit, place}
use Rattle.ancestors.specs.Related.{Ranked, Related, Relates}
use Rattle.row_inheritance.specs.Ranks.{entities_before, rank_in}
use Rattle.row_inheritance.specs.Steps.{declaration_limit, EntityGraph, EntityRows, RanksStand, RelatesEntities}
use Rattle.row_inheritance.proofs.Ranking.{ranked_entity, entity_ranked, rank_within, rank_once}
use Rattle.row_inheritance.proofs.Parts.{at_part, part_long}

-- the words that rows take
module _ {entities width : ℕ} (w : width ≡ entities / word + 1) (l : entities < declaration_limit) where
  pub width_low : width ≤ width_limit
  width_low = omega (arith, w)

  pub rows_few : (entities + 1) * width ≤ 32768 * 1024
  rows_few =
      let a : entities + 1 ≤ 32768 = omega arith in
      let b : width ≤ 1024 = omega (arith, w) in
      mul-le-mul a b

  pub rows_fit : (entities + 1) * width < 18446744073709551616
  rows_fit = omega (arith, rows_few)

-- a bit of the first rows
rows_more : (entities width : ℕ) → (entities + 1) * width ≡ entities * width + width
rows_more entities width = let e = add-one entities in rw e (suc-mul entities width)

bit_front : (part rest : List ℕ) (i : ℕ) → i / word < length part → bit (part ++ rest) i ≡ bit part i
unfolding bit
bit_front part rest i l = ap (λ (x : ℕ). eqb (x / 2 ^ (i % word) % 2) 1) (get_or-append part rest 0 (i / word) l)

module _ (entities width : ℕ) (part rest : List ℕ) (long : length part ≡ (entities + 1) * width) where
  bit_in : (rank other : ℕ) → rank ≤ entities → other < width * word → bit (part ++ rest) (place width rank other) ≡ bit part (place width rank other)
  bit_in rank other h l =
      let m : rank * width ≤ entities * width = mul-le-mul h (omega arith) in
      bit_front part rest (place width rank other) (omega (arith, m, long, rows_more entities width, l))

  bit_in_first : (other : ℕ) → other < width * word → bit (part ++ rest) other ≡ bit part other
  bit_in_first other l = bit_front part rest other (omega (arith, long, rows_more entities width, l))

module _ {kinds nodes first to : List ℕ} {symbols declarations entities width : ℕ} {table : List ℕ} (D : declarations ≡ vertices first)
    (n : entities ≡ entities_before kinds nodes declarations) (S : RanksStand kinds nodes symbols declarations table) (room : symbols + declarations ≤ length table)
    (w : width ≡ entities / word + 1) (G : EntityGraph kinds nodes first to) where
  abbrev ranks : List ℕ
  ranks = take (symbols + declarations - symbols) (drop symbols table)

  long : length ranks ≡ vertices first
  long = part_long symbols declarations table room ∙ D

  rank_at : (v : ℕ) → v < vertices first → get_or ranks v 0 ≡ rank_in kinds nodes v
  rank_at v l =
      get_or-take (symbols + declarations - symbols) (drop symbols table) v 0 (omega (arith, D)) ∙ sym (at_part symbols table v (omega arith)) ∙ S.is v (omega (arith, D))

  rank_known : (v : ℕ) → 0 < get_or ranks v 0 → v < vertices first
  rank_known v l =
      by_cases (dec_lt v (vertices first)) (λ h. h)
      (λ h. let z : get_or ranks v 0 ≡ 0 = get_or-eq_default ranks 0 (omega (arith, h, long)) in absurd (omega (arith, l, z)))

  rank_small : (v : ℕ) → get_or ranks v 0 < width * word
  rank_small v =
      by_cases (dec_lt v (vertices first))
      (λ h. omega (arith, rank_at v h, rank_within kinds nodes v declarations (omega (arith, D)), n, w))
      (λ h. let z : get_or ranks v 0 ≡ 0 = get_or-eq_default ranks 0 (omega (arith, h, long)) in omega (arith, z, w))

  ranked : Ranked first to ranks width
  ranked =
      record {
        graph = G.graph;
        long = long;
        small = rank_small;
        once =
            λ v u a b l e.
            rank_once kinds nodes v u (omega (arith, l, rank_at v a)) (sym (rank_at v a) ∙ e ∙ rank_at u b);
        onward =
            λ v u A l.
            let a = rank_known v l in
            let b = arc_target G.graph A in
            let e = G.onward v u A (ranked_entity kinds nodes v (omega (arith, l, rank_at v a))) in
            omega (arith, rank_at u b, entity_ranked kinds nodes u e);
      }

  entity_rows : (part rest : List ℕ) → length part ≡ (entities + 1) * width → Related first to ranks width part → EntityRows kinds nodes first to width (part ++ rest)
  entity_rows part rest k R =
      record {
        reached =
            λ v u a b e f.
            let p = rank_at v a in
            let q = rank_at u b in
            let i : rank_in kinds nodes v ≤ entities = omega (arith, rank_within kinds nodes v declarations (omega (arith, D)), n) in
            let o : rank_in kinds nodes u < width * word = omega (arith, q, rank_small u) in
            let z = bit_in entities width part rest k (rank_in kinds nodes v) (rank_in kinds nodes u) i o in
            let x = R.reached v u a b (omega (arith, p, entity_ranked kinds nodes v e)) (omega (arith, q, entity_ranked kinds nodes u f)) in
            rw z (rw (p, q) at x);
        by_any =
            λ v u a b e r.
            let p = rank_at v a in
            let q = rank_at u b in
            bit_in_first entities width part rest k (rank_in kinds nodes u) (omega (arith, q, rank_small u))
            ∙ (rw q at (R.by_any v u (omega (arith, p, entity_ranked kinds nodes v e)) r));
      }

pub relates_none : {first to : List ℕ} {symbols declarations entities : ℕ} {table rows : List ℕ} → RelatesEntities first to symbols declarations entities table None rows
relates_none = record { narrow = λ w e. absurd (none-some w e); rows_are = λ w e. absurd (none-some w e) }

pub relates_some : {first to : List ℕ} {symbols declarations entities width : ℕ} {table order part part' : List ℕ} {r : Bool} (rest : List ℕ) → width ≡ entities / word + 1
    → entities ≤ declarations → declarations < declaration_limit → symbols + declarations ≤ length table
    → Relates first to (take (symbols + declarations - symbols) (drop symbols table)) order width part r part' → r ≡ true → length part' ≡ length part
    → length part ≡ (entities + 1) * width → RelatesEntities first to symbols declarations entities table (Some width) (part' ++ rest)
relates_some {width = width} {part' = part'} rest w a b room R e p q =
    record {
      narrow = λ v z. let y : v ≡ width = same_Some v width (sym z) in rw y (width_low w (omega arith));
      rows_are = λ v z kinds nodes D n S G. let y : v ≡ width = same_Some v width (sym z) in rw y (entity_rows D n S room w G part' rest (p ∙ q) (R.is e (ranked D n S room w G)));
    }
