-- Laws of rounds: who is not on a chain that has room is new, and who is not on a full one is on that of a later round or is new.
use mathlib.Core.Path.{◌≡◌, refl, sym, ap, ◌∙◌}
use mathlib.Core.Bool.{Bool, true, false, cond, false≢true}
use mathlib.Core.List.{List}
use mathlib.Core.Logic.{◌⊎◌, ⊎_elim}
use Prim.Native.Nat.{ℕ, zero, suc, ◌-◌, ◌≤◌, ◌<◌}
use native.Mathlib.Omega.{arith}
use lib.Dec.{ltb}
use lib.ListN.{length, get_or}
use borrow.Author.Tests.{lt-ltb, le-ltb, ltb-true, ltb-false}
use Rattle.relations.proofs.Select.{and_fst, and_snd, and_both}
use Rattle.express.proofs.Tokens.Spelling.{same_true}
use Rattle.index.specs.Link.{last_index_below}
use Rattle.index.specs.Bucket.{InRange}
use Rattle.spellings.specs.Hash.{hash_of, stirred, long_hash_of}
use Rattle.index.proofs.Search.{last_le, last_passes, last_none}
use Rattle.chains.specs.Rounds.{full, later, first_bucket, low_half, later_bucket, later_home, home}
use Rattle.chains.specs.Chains.{is_first, entries, ChainedBelow}
use Rattle.chains.specs.Steps.{has, wanted, first_spelled, met_by, place_by, place_at, place_of, MetAlike, PlacedAlike, Passed, Along, Places, PlacesLater}
use Rattle.chains.specs.declared.Met.{Met}
use Rattle.chains.specs.declared.Met.TheVariants.{At, Full, Room}
use Rattle.chains.specs.declared.Place.{Place}
use Rattle.chains.specs.declared.Place.TheVariants.{Known, Free}
use Rattle.chains.proofs.Chains.{first_once, on_first, on_is, count_le, wanted_on, wanted_alike}

module _ (p : ℕ → Bool) (n : ℕ) where
  -- the only one that passes is the last; where none does there is none
  pub last_only : (k : ℕ) → k < n → p k ≡ true → ((j : ℕ) → p j ≡ true → j ≡ k) → last_index_below p n ≡ suc k
  last_only k l y once = by (last_index_below p n) refl
    where
      by : (x : ℕ) → last_index_below p n ≡ x → last_index_below p n ≡ suc k
      by zero e = absurd (false≢true (sym (last_none p n k e l) ∙ y))
      by (suc j) e = e ∙ ap suc (once j (last_passes p n j e))

  pub last_nothing : ((j : ℕ) → j < n → p j ≡ true → ⊥) → last_index_below p n ≡ 0
  last_nothing none = by (last_index_below p n) refl
    where
      by : (x : ℕ) → last_index_below p n ≡ x → last_index_below p n ≡ 0
      by zero e = e
      by (suc j) e = absurd (none j (omega (arith, e, last_le p n)) (last_passes p n j e))

-- ---- what was met
pub placed_free : (met : Met) (b : ℕ) → (met ≡ Full) ⊎ (met ≡ Room) → Free b ≡ place_by met b
placed_free met b = ⊎_elim (λ e. rw e refl) (λ e. rw e refl)

abbrev is_full : Met → Bool
is_full (At k) = false
is_full Full = true
is_full Room = false

pub not_at_full : (k : ℕ) → At k ≡ Full → ⊥
not_at_full k e = false≢true (ap is_full e)

-- a full chain without the spelling
met_full : (l n : ℕ) {r : Met} → r ≡ met_by l n → r ≡ Full → (l ≡ 0) × (full ≤ n)
met_full zero n e f = (refl, by (ltb n full) refl (sym (ap is_full e) ∙ ap is_full f))
  where
    by : (x : Bool) → ltb n full ≡ x → is_full (cond x Room Full) ≡ true → full ≤ n
    by true q z = absurd (false≢true z)
    by false q z = ltb-false n full q
met_full (suc k) n e f = absurd (false≢true (sym (ap is_full e) ∙ ap is_full f))

module _ (bytes starts lengths : List ℕ) where
  placed_alike : (xs : List ℕ) (limit m b : ℕ) (met : Met) → MetAlike bytes starts lengths xs limit met → b < m
      → PlacedAlike bytes starts lengths xs limit m (place_by met b)
  placed_alike xs limit m b (At k) h l = h
  placed_alike xs limit m b Full h l = l
  placed_alike xs limit m b Room h l = l

  module _ (t : List ℕ) (m : ℕ) (xs : List ℕ) (limit : ℕ) where
    abbrev alike : ℕ → Bool
    alike j = has bytes starts lengths xs j

    abbrev first : ℕ → Bool
    first j = is_first bytes starts lengths t j

    abbrev sought : ℕ → Bool
    sought j = first_spelled bytes starts lengths t xs j

    abbrev want : ℕ → ℕ → Bool
    want b j = wanted bytes starts lengths t m b xs j

    abbrev count : ℕ → ℕ → ℕ
    count n b = entries bytes starts lengths t m n b

    abbrev goes : ℕ → ℕ
    goes n = home (entries bytes starts lengths t m n) m xs

    abbrev answer : Place
    answer = place_of bytes starts lengths t m xs limit

    -- who has the spelling and went to a bucket is met there
    unmet : (b : ℕ) → last_index_below (want b) limit ≡ 0 → (j : ℕ) → j < limit → sought j ≡ true → goes j ≡ b → ⊥
    unmet b e j l y g =
        let f = and_fst (first j) (alike j) y in
        let s = and_snd (first j) (alike j) y in
        let q = on_is bytes starts lengths t m b j f (ap (λ (ys : List ℕ). home (count j) m ys) (same_true _ _ s) ∙ g) in
        false≢true (sym (last_none (want b) limit j e l) ∙ and_both _ _ q s)

    known : (b k : ℕ) → last_index_below (want b) limit ≡ suc k → Known k ≡ answer
    unfolding place_of
    known b k e =
        let y = last_passes (want b) limit k e in
        let f = on_first bytes starts lengths t m b k (wanted_on bytes starts lengths t m b xs k y) in
        let s = wanted_alike bytes starts lengths t m b xs k y in
        let q : last_index_below sought limit ≡ suc k =
        last_only sought limit k (omega (arith, e, last_le (want b) limit)) (and_both _ _ f s)
        (λ j z.
        first_once bytes starts lengths t j k (and_fst (first j) (alike j) z) f (same_true _ _ (and_snd (first j) (alike j) z) ∙ sym (same_true _ _ s))) in
        sym (ap (λ (l : ℕ). place_at l (goes limit)) q)

    new : (b : ℕ) → ((j : ℕ) → j < limit → sought j ≡ true → ⊥) → goes limit ≡ b → Free b ≡ answer
    unfolding place_of
    new b none g = sym (ap (λ (l : ℕ). place_at l (goes limit)) (last_nothing sought limit none) ∙ ap Free g)

    -- a round that is not the last: whoever has the spelling went to its bucket, if that had room, and else where the later rounds led
    record Round (b : ℕ) (rest : ℕ → ℕ) : Type 0 where
      before : (j : ℕ) → j < limit → sought j ≡ true → goes j ≡ cond (ltb (count j b) full) b (rest j)
      now : goes limit ≡ cond (ltb (count limit b) full) b (rest limit)

    elsewhere : (x : Bool) {g b d : ℕ} → g ≡ cond x b d → (g ≡ b → ⊥) → g ≡ d
    elsewhere true e n = absurd (n e)
    elsewhere false e n = e

    module _ {b : ℕ} {rest : ℕ → ℕ} (R : Round b rest) where
      -- past a full chain without the spelling
      passes : {r : Met} → r ≡ met_by (last_index_below (want b) limit) (count limit b) → r ≡ Full
          → ((j : ℕ) → j < limit → sought j ≡ true → goes j ≡ rest j) × (goes limit ≡ rest limit)
      passes e f =
          let z = met_full (last_index_below (want b) limit) (count limit b) e f in (
            λ j l y. elsewhere (ltb (count j b) full) (R.before j l y) (unmet b z.0 j l y),
            R.now ∙ ap (λ (x : Bool). cond x b (rest limit)) (le-ltb (count limit b) full z.1),
          )

      -- a chain with room: whoever has the spelling is on it
      settles : {r : Met} → r ≡ met_by (last_index_below (want b) limit) (count limit b) → (r ≡ Full → ⊥) → place_by r b ≡ answer
      settles {r} e n = by (last_index_below (want b) limit) refl e
        where
          free : (x : Bool) → ltb (count limit b) full ≡ x → last_index_below (want b) limit ≡ 0 → r ≡ cond x Room Full → place_by r b ≡ answer
          free true q z f =
              let low : count limit b < full = ltb-true (count limit b) full q in
              ap (λ (y : Met). place_by y b) f
              ∙ new b
              (λ j l y.
              unmet b z j l y
              (R.before j l y
              ∙ ap (λ (x : Bool). cond x b (rest j))
              (lt-ltb (count j b) full (omega (arith, low, count_le bytes starts lengths t m b j limit (omega (arith, l)))))))
              (R.now ∙ ap (λ (x : Bool). cond x b (rest limit)) q)
          free false q z f = absurd (n f)

          by : (l : ℕ) → last_index_below (want b) limit ≡ l → r ≡ met_by l (count limit b) → place_by r b ≡ answer
          by zero z f = free (ltb (count limit b) full) refl z f
          by (suc k) z f = ap (λ (y : Met). place_by y b) f ∙ known b k z

    -- the last round: whoever has the spelling is on its chain
    settles_last : {b : ℕ} {r : Met} → ((j : ℕ) → j < limit → sought j ≡ true → goes j ≡ b) → goes limit ≡ b
        → r ≡ met_by (last_index_below (want b) limit) (count limit b) → place_by r b ≡ answer
    settles_last {b} {r} before now e = by (last_index_below (want b) limit) refl e
      where
        free : (x : Bool) → r ≡ cond x Room Full → place_by r b ≡ Free b
        free true f = ap (λ (y : Met). place_by y b) f
        free false f = ap (λ (y : Met). place_by y b) f

        by : (l : ℕ) → last_index_below (want b) limit ≡ l → r ≡ met_by l (count limit b) → place_by r b ≡ answer
        by zero z f = free (ltb (count limit b) full) f ∙ new b (λ j l y. unmet b z j l y (before j l y)) now
        by (suc k) z f = ap (λ (y : Met). place_by y b) f ∙ known b k z

    abbrev split : (ℕ → ℕ) → ℕ → ℕ → ℕ
    split rest n b = cond (ltb (count n b) full) b (rest n)

    abbrev later_from : ℕ → ℕ → ℕ → ℕ
    later_from h left n = later_home (count n) m h left

    first_round : {b : ℕ} → b ≡ first_bucket m xs → Round b (later_from (long_hash_of xs) later)
    unfolding home
    first_round e =
        let rest = later_from (long_hash_of xs) later in record { before = λ j l y. ap (split rest j) (sym e); now = ap (split rest limit) (sym e) }

    later_round : {b h : ℕ} (left : ℕ) → Passed bytes starts lengths t m xs limit h (suc left) → b ≡ later_bucket m h → Round b (later_from (stirred h 0) left)
    unfolding later_home
    later_round {h = h} left P e =
        let rest = later_from (stirred h 0) left in
        record { before = λ j l y. P.before j l y ∙ ap (split rest j) (sym e); now = P.now ∙ ap (split rest limit) (sym e) }

  -- ---- where a spelling is, round by round

  -- what a call for one bucket gave
  pub record Asked (heads next xs : List ℕ) (limit b : ℕ) (met : Met) : Type 0 where
    pub low : b < length heads
    pub along : Along bytes starts lengths next xs limit (get_or heads b 0) met

  module _ {heads next xs : List ℕ} {limit : ℕ} where
    met_is : {b : ℕ} {met : Met} → Asked heads next xs limit b met → (t : List ℕ) → ChainedBelow bytes starts lengths t heads next limit
        → met ≡ met_by (last_index_below (wanted bytes starts lengths t (length heads) b xs) limit) (entries bytes starts lengths t (length heads) limit b)
    met_is {b} A t C = A.along.is t (length heads) b C.links (C.head b A.low)

    placed_holds : {b : ℕ} {met : Met} {r : Place} → Asked heads next xs limit b met → r ≡ place_by met b → PlacedAlike bytes starts lengths xs limit (length heads) r
    placed_holds {b} {met} A e = rw e (placed_alike xs limit (length heads) b met A.along.holds A.low)

  -- before a later round: whoever has the spelling passed the rounds so far
  pub record Going (heads next xs : List ℕ) (limit h left : ℕ) : Type 0 where
    pub passed :
        (t : List ℕ) → ChainedBelow bytes starts lengths t heads next limit → Passed bytes starts lengths t (length heads) xs limit (long_hash_of xs) later
        → Passed bytes starts lengths t (length heads) xs limit h left

  pub going_starts : {heads next xs : List ℕ} {limit h : ℕ} → h ≡ long_hash_of xs → Going heads next xs limit h later
  going_starts e = record { passed = λ t C P. rw e P }

  module _ {heads next xs : List ℕ} {limit h left b : ℕ} {met : Met} (w : Going heads next xs limit h left) (B : InRange (length heads) (low_half h) b)
      (A : Asked heads next xs limit b met) where
    -- a later round that is not the last
    module _ (more : 0 < left) where
      at_round : (t : List ℕ) → ChainedBelow bytes starts lengths t heads next limit
          → Passed bytes starts lengths t (length heads) xs limit (long_hash_of xs) later
          → Round t (length heads) xs limit b (later_from t (length heads) xs limit (stirred h 0) (left - 1))
      at_round t C P =
          let q : left ≡ suc (left - 1) = omega arith in later_round t (length heads) xs limit (left - 1) (rw q at (w.passed t C P)) B.is

      pub going_on : {g : ℕ} → met ≡ Full → g ≡ stirred h 0 → Going heads next xs limit g (left - 1)
      going_on f e =
          record {
            passed =
                λ t C P.
                let y = passes t (length heads) xs limit (at_round t C P) (met_is A t C) f in
                rw e (record { before = y.0; now = y.1 });
          }

      pub going_settles : {r : Place} → (met ≡ Full → ⊥) → r ≡ place_by met b → PlacesLater bytes starts lengths heads next xs limit r
      going_settles n e =
          record { holds = placed_holds A e; is = λ t C P. e ∙ settles t (length heads) xs limit (at_round t C P) (met_is A t C) n }

    -- the last round
    pub going_ends : {r : Place} → left ≤ 0 → r ≡ place_by met b → PlacesLater bytes starts lengths heads next xs limit r
    unfolding later_home
    going_ends z e =
        let q : left ≡ 0 = omega arith in
        record {
          holds = placed_holds A e;
          is =
              λ t C P.
              let L : Passed bytes starts lengths t (length heads) xs limit h 0 = rw q at (w.passed t C P) in
              e ∙ settles_last t (length heads) xs limit (λ j l y. L.before j l y ∙ sym B.is) (L.now ∙ sym B.is) (met_is A t C);
        }

  -- ---- the first round

  module _ {heads next xs : List ℕ} {limit b : ℕ} {met : Met} (B : InRange (length heads) (hash_of xs) b) (A : Asked heads next xs limit b met) where
    pub place_settles : {r : Place} → (met ≡ Full → ⊥) → r ≡ place_by met b → Places bytes starts lengths heads next xs limit r
    place_settles n e =
        record {
          holds = placed_holds A e;
          is = λ t C. e ∙ settles t (length heads) xs limit (first_round t (length heads) xs limit B.is) (met_is A t C) n;
        }

    pub place_goes_on : {r : Place} → met ≡ Full → PlacesLater bytes starts lengths heads next xs limit r → Places bytes starts lengths heads next xs limit r
    place_goes_on f L =
        record {
          holds = L.holds;
          is =
              λ t C.
              let y = passes t (length heads) xs limit (first_round t (length heads) xs limit B.is) (met_is A t C) f in
              L.is t C (record { before = y.0; now = y.1 });
        }
