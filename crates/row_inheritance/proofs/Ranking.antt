-- The ranks of entities: stored one after the other; no two are the same, and none is above the number of entities.
use mathlib.Core.Path.{◌≡◌, refl, sym, ap, ◌∙◌}
use mathlib.Core.Logic.{by_cases}
use mathlib.Core.Bool.{Bool, true, false, not}
use mathlib.Core.List.{List}
use Prim.Native.Nat.{ℕ, zero, suc, ◌+◌, ◌-◌, ◌≤◌, ◌<◌}
use native.Mathlib.Numerals.{add-one}
use native.Mathlib.Omega.{arith}
use native.Mathlib.Decide.{ℕ_discrete, dec_lt}
use borrow.Author.Tests.{eq-eqb, ne_eqb}
use lib.Dec.{eqb}
use lib.ListN.{length, get_or, set, length-set}
use Rattle.columns.proofs.Laws.{at_set, at_other}
use Rattle.express.specs.Syntax.NodeKind.{entity}
use Rattle.row_inheritance.specs.Ranks.{entity_at, entities_before, rank_in, RanksEntities}

module _ (kinds nodes : List ℕ) where
  -- what a test of the kind tells
  module _ (v : ℕ) {x y z : ℕ} (p : z ≡ get_or nodes v 0) (q : y ≡ z) (k : x ≡ get_or kinds y 0) where
    kind_is : get_or kinds (get_or nodes v 0) 0 ≡ x
    kind_is = ap (λ (n : ℕ). get_or kinds n 0) (sym (q ∙ p)) ∙ sym k

    told_entity : x ≡ entity → entity_at kinds nodes v ≡ true
    told_entity e = eq-eqb (get_or kinds (get_or nodes v 0) 0) entity (kind_is ∙ e)

    told_other : (x ≡ entity → ⊥) → entity_at kinds nodes v ≡ false
    told_other h = ne_eqb (get_or kinds (get_or nodes v 0) 0) entity (λ e. h (sym kind_is ∙ e))

  before_more : (v : ℕ) → entity_at kinds nodes v ≡ true → entities_before kinds nodes (v + 1) ≡ entities_before kinds nodes v + 1
  unfolding entities_before
  before_more v e = rw (add-one v, e)

  before_same : (v : ℕ) → entity_at kinds nodes v ≡ false → entities_before kinds nodes (v + 1) ≡ entities_before kinds nodes v
  unfolding entities_before
  before_same v e = rw (add-one v, e)

  rank_more : (v : ℕ) → entity_at kinds nodes v ≡ true → rank_in kinds nodes v ≡ entities_before kinds nodes v + 1
  unfolding rank_in
  rank_more v e = rw e

  rank_none : (v : ℕ) → entity_at kinds nodes v ≡ false → rank_in kinds nodes v ≡ 0
  unfolding rank_in
  rank_none v e = rw e

  pub ranked_entity : (v : ℕ) → 0 < rank_in kinds nodes v → entity_at kinds nodes v ≡ true
  ranked_entity v l = by (entity_at kinds nodes v) refl
    where
      by : (b : Bool) → entity_at kinds nodes v ≡ b → entity_at kinds nodes v ≡ true
      by true e = e
      by false e = absurd (omega (arith, l, rank_none v e))

  pub entity_ranked : (v : ℕ) → entity_at kinds nodes v ≡ true → 0 < rank_in kinds nodes v
  entity_ranked v e = omega (arith, rank_more v e)

  -- a rank tells whether it is an entity's
  pub rank_tells : (v : ℕ) → not (eqb (rank_in kinds nodes v) 0) ≡ entity_at kinds nodes v
  rank_tells v = by (entity_at kinds nodes v) refl
    where
      by : (b : Bool) → entity_at kinds nodes v ≡ b → not (eqb (rank_in kinds nodes v) 0) ≡ entity_at kinds nodes v
      by true e = ap not (ne_eqb (rank_in kinds nodes v) 0 (λ z. omega (arith, z, rank_more v e))) ∙ sym e
      by false e = ap not (eq-eqb (rank_in kinds nodes v) 0 (rank_none v e)) ∙ sym e

  before_step : (v : ℕ) → entities_before kinds nodes v ≤ entities_before kinds nodes (v + 1)
  before_step v = by (entity_at kinds nodes v) refl
    where
      by : (b : Bool) → entity_at kinds nodes v ≡ b → entities_before kinds nodes v ≤ entities_before kinds nodes (v + 1)
      by true e = omega (arith, before_more v e)
      by false e = omega (arith, before_same v e)

  before_rises : (v d : ℕ) → entities_before kinds nodes v ≤ entities_before kinds nodes (v + d)
  before_rises v zero = let z : v + 0 ≡ v = omega arith in rw z (omega arith)
  before_rises v (suc d) = let z : v + suc d ≡ v + d + 1 = omega arith in rw z (omega (arith, before_rises v d, before_step (v + d)))

  -- no rank is above the number of entities
  pub rank_within : (v n : ℕ) → v < n → rank_in kinds nodes v ≤ entities_before kinds nodes n
  rank_within v n l = by (entity_at kinds nodes v) refl
    where
      more : entities_before kinds nodes (v + 1) ≤ entities_before kinds nodes n
      more = let z : v + 1 + (n - (v + 1)) ≡ n = omega arith in rw z at (before_rises (v + 1) (n - (v + 1)))

      by : (b : Bool) → entity_at kinds nodes v ≡ b → rank_in kinds nodes v ≤ entities_before kinds nodes n
      by true e = omega (arith, rank_more v e, before_more v e, more)
      by false e = omega (arith, rank_none v e)

  -- nor are there more entities than declarations
  pub before_few : (n : ℕ) → entities_before kinds nodes n ≤ n
  unfolding entities_before
  before_few zero = omega arith
  before_few (suc n) = by (before_few n) (entity_at kinds nodes n) refl
    where
      by : entities_before kinds nodes n ≤ n → (b : Bool) → entity_at kinds nodes n ≡ b → entities_before kinds nodes (suc n) ≤ suc n
      by h true e = omega (arith, rw (add-one n) at (before_more n e), h)
      by h false e = omega (arith, rw (add-one n) at (before_same n e), h)

  rank_below : (v w : ℕ) → v < w → entity_at kinds nodes v ≡ true → entity_at kinds nodes w ≡ true → rank_in kinds nodes v < rank_in kinds nodes w
  rank_below v w l e f =
      let m : v + 1 + (w - (v + 1)) ≡ w = omega arith in
      let r : entities_before kinds nodes (v + 1) ≤ entities_before kinds nodes w = rw m at (before_rises (v + 1) (w - (v + 1))) in
      omega (arith, rank_more v e, rank_more w f, before_more v e, r)

  pub rank_once : (v w : ℕ) → 0 < rank_in kinds nodes v → rank_in kinds nodes v ≡ rank_in kinds nodes w → v ≡ w
  rank_once v w l q =
      let e = ranked_entity v l in
      let f = ranked_entity w (omega (arith, l, q)) in
      by_cases (dec_lt v w) (λ h. absurd (omega (arith, rank_below v w h e f, q)))
      (λ h. by_cases (dec_lt w v) (λ g. absurd (omega (arith, rank_below w v g f e, q))) (λ g. omega (arith, h, g)))

-- ---- the loop of `rank_entities`
pub record Ranking (kinds nodes ranks₁ ranks : List ℕ) (count v : ℕ) : Type 0 where
  pub long : length ranks ≡ length ranks₁
  pub upto : v ≤ length ranks₁
  pub counted : count ≡ entities_before kinds nodes v
  pub is : length ranks₁ < 4294967296 → (w : ℕ) → w < v → get_or ranks w 0 ≡ rank_in kinds nodes w

module _ {kinds nodes : List ℕ} where
  pub ranking_starts : {ranks : List ℕ} → Ranking kinds nodes ranks ranks 0 0
  unfolding entities_before
  ranking_starts = record { long = refl; upto = omega arith; counted = refl; is = λ h w l. absurd (omega arith) }

  module _ {ranks₁ ranks : List ℕ} {count v : ℕ} (s : Ranking kinds nodes ranks₁ ranks count v) where
    pub ranking_few : count ≤ v
    ranking_few = omega (arith, s.counted, before_few kinds nodes v)

    pub ranking_ends : length ranks ≤ v → RanksEntities kinds nodes ranks₁ count ranks
    ranking_ends l =
        let z : v ≡ length ranks₁ = omega (arith, s.long, s.upto) in
        record {
          total = s.counted ∙ ap (entities_before kinds nodes) z;
          is = λ h w k. s.is h w (omega arith);
        }

    module _ (l : v < length ranks) where
      -- one rank more
      goes : {x c : ℕ} {ranks' : List ℕ} → ranks' ≡ set ranks v x → (length ranks₁ < 4294967296 → x ≡ rank_in kinds nodes v) → c ≡ entities_before kinds nodes (v + 1)
          → Ranking kinds nodes ranks₁ ranks' c (v + 1)
      goes {x} {c} {ranks'} g y n =
          rw g
          (record {
            long = length-set ranks v x ∙ s.long;
            upto = omega (arith, s.long);
            counted = n;
            is =
                λ h w k.
                by_cases (ℕ_discrete w v) (λ z. rw z (at_set ranks v x 0 l ∙ y h))
                (λ z. at_other ranks v w x 0 z ∙ s.is h w (omega (arith, z)));
          })

      pub ranking_more : {x k y z c : ℕ} {ranks' : List ℕ} → z ≡ get_or nodes v 0 → y ≡ z → k ≡ get_or kinds y 0 → k ≡ entity → (count + 1 < 4294967296 → x ≡ count + 1) → c ≡ count + 1
          → ranks' ≡ set ranks v x → Ranking kinds nodes ranks₁ ranks' c (v + 1)
      ranking_more p q h o f i g =
          let e = told_entity kinds nodes v p q h o in
          goes g (λ h. f (omega (arith, ranking_few, s.long)) ∙ ap (λ (n : ℕ). n + 1) s.counted ∙ sym (rank_more kinds nodes v e))
          (i ∙ ap (λ (n : ℕ). n + 1) s.counted ∙ sym (before_more kinds nodes v e))

      pub ranking_none : {k y z c : ℕ} {ranks' : List ℕ} → z ≡ get_or nodes v 0 → y ≡ z → k ≡ get_or kinds y 0 → (k ≡ entity → ⊥) → c ≡ count → ranks' ≡ set ranks v 0 → Ranking kinds nodes ranks₁ ranks' c (v + 1)
      ranking_none p q h o i g =
          let e = told_other kinds nodes v p q h o in
          goes g (λ h. sym (rank_none kinds nodes v e)) (i ∙ s.counted ∙ sym (before_same kinds nodes v e))
