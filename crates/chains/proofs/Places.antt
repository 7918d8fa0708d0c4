-- Laws of places: the bucket of a token, the head of its chain, and what is said of a token or a word that has a place.
use mathlib.Core.Path.{◌≡◌, refl, sym, ap, ◌∙◌}
use mathlib.Core.Bool.{Bool, true, false, ◌&&◌, not, false≢true}
use mathlib.Core.List.{List, map}
use Prim.Native.Nat.{ℕ, ◌+◌, ◌-◌, ◌≤◌, ◌<◌, min}
use native.Mathlib.Omega.{arith}
use lib.Dec.{ltb}
use lib.ListN.{length, get_or, take, drop}
use borrow.Author.Tests.{lt-ltb, le-ltb, ltb-true, not-true, not-false}
use Rattle.express.specs.Tokens.Bytes.{lower, same}
use Rattle.express.specs.Tokens.Spelling.{spelling}
use Rattle.relations.proofs.Select.{and_fst, and_snd, and_both}
use Rattle.index.specs.Bucket.{range_of, InRange}
use Rattle.spellings.specs.Blocks.{SurelyAlike}
use Rattle.spellings.specs.Hash.{hash_of, Hashes}
use Rattle.chains.specs.Steps.{Lined, lined_with, Leads, Along, Places, PlacesToken, PlacesWord}
use Rattle.chains.specs.declared.Met.TheVariants as met
use Rattle.chains.specs.declared.Place.{Place}
use Rattle.chains.specs.declared.Place.TheVariants.{Known}
use Rattle.chains.proofs.Chains.{Walk, walk_starts, walk_hits}
use Rattle.chains.proofs.Rounds.{not_at_full, place_settles}

-- the test of `lined`, by the tokens that have all columns
module _ (starts lengths heads next i : ℕ) {n m : ℕ} (e : n ≡ min lengths next) (f : m ≡ min starts n) where
  pub lined_past : m ≤ i → false ≡ lined_with starts lengths heads next i
  lined_past h = let l : min starts (min lengths next) ≤ i = omega arith in sym (ap (λ (x : Bool). x && ltb 0 heads) (le-ltb _ _ l))

  pub lined_by : i < m → ltb 0 heads ≡ lined_with starts lengths heads next i
  lined_by h = let l : i < min starts (min lengths next) = omega arith in sym (ap (λ (x : Bool). x && ltb 0 heads) (lt-ltb _ _ l))

-- the bucket of a number is that of an equal one
pub in_bucket : {m x y b : ℕ} → InRange m x b → x ≡ y → InRange m y b
in_bucket {m} B e = record { is = B.is ∙ ap (range_of m) e; small = B.small }

-- and that of a spelling that of an equal one
pub same_bucket : {m b : ℕ} {xs ys : List ℕ} → ys ≡ xs → InRange m (hash_of xs) b → InRange m (hash_of ys) b
same_bucket e B = rw e B

module _ (bytes starts lengths : List ℕ) where
  pub lined_below : {next : List ℕ} {i : ℕ} → Lined bytes starts lengths next (i + 1) → Lined bytes starts lengths next i
  lined_below L = record { started = omega (arith, L.started); sized = omega (arith, L.sized); linked = omega (arith, L.linked) }

  -- where a spelling is, so are the bytes that have it
  pub places_as : {heads next xs ys : List ℕ} {i : ℕ} {r : Place} → xs ≡ ys → Places bytes starts lengths heads next xs i r → Places bytes starts lengths heads next ys i r
  places_as e P = rw e at P

  -- the head of the first chain is spelled like the word
  pub place_leads : {heads next xs : List ℕ} {limit b first : ℕ} → Lined bytes starts lengths next limit → InRange (length heads) (hash_of xs) b → first ≡ get_or heads b 0
      → Leads bytes starts lengths xs limit first → Places bytes starts lengths heads next xs limit (Known (first - 1))
  place_leads {heads} {next} {xs} {limit} {b} {first} L B e D =
      let w : Walk bytes starts lengths next xs limit first limit first 0 = walk_starts bytes starts lengths L in
      let A : Along bytes starts lengths next xs limit first (met.At (first - 1)) = walk_hits bytes starts lengths w D.some D.low refl D.alike in
      let H : Along bytes starts lengths next xs limit (get_or heads b 0) (met.At (first - 1)) =
      record { holds = A.holds; is = λ t m c K q. A.is t m c K (e ∙ q) } in
      place_settles bytes starts lengths B (record { low = B.small; along = H }) (not_at_full (first - 1)) refl

  -- the bucket of a token, by its bytes
  pub token_in :
      (i : ℕ) {m p n h b : ℕ} → InRange m h b → Hashes (take n (drop p bytes)) h → p ≡ get_or starts i 0 → n ≡ get_or lengths i 0 → InRange m (hash_of (spelling bytes starts lengths i)) b
  token_in i B H e f = let G = rw (e, f) at H in in_bucket B G.is

  -- the token that a link leads to is as long as token i, and its bytes are surely spelled like it
  pub leads_to :
      {i first p q n : ℕ} {r : Bool} → (first ≡ 0 → ⊥) → first ≤ i → p ≡ get_or starts (first - 1) 0 → q ≡ get_or starts i 0 → n ≡ get_or lengths i 0 → get_or lengths (first - 1) 0 ≡ n →
      SurelyAlike bytes p q n r → r ≡ true → Leads bytes starts lengths (spelling bytes starts lengths i) i first
  leads_to {i} {first} {p} {q} {n} z l ep eq en ek S t =
      let some : 0 < first = omega (arith, z) in
      let m : n ≡ get_or lengths (first - 1) 0 = sym ek in
      let a = rw (ep, eq) at (S.is t) in
      let b : same (map lower (take (get_or lengths (first - 1) 0) (drop (get_or starts (first - 1) 0) bytes))) (map lower (take (get_or lengths i 0) (drop (get_or starts i 0) bytes))) ≡ true =
      ap (λ (x : ℕ). same (map lower (take x (drop (get_or starts (first - 1) 0) bytes))) (map lower (take (get_or lengths i 0) (drop (get_or starts i 0) bytes)))) (sym m)
      ∙ ap (λ (x : ℕ). same (map lower (take n (drop (get_or starts (first - 1) 0) bytes))) (map lower (take x (drop (get_or starts i 0) bytes)))) (sym en)
      ∙ a in
      record { some = some; low = omega arith; alike = b }

  -- ---- what may be asked for

  module _ (heads next : List ℕ) (i : ℕ) {b : Bool} (e : b ≡ lined_with (length starts) (length lengths) (length heads) (length next) i) where
    pub token_lined : not b ≡ false → Lined bytes starts lengths next (i + 1) × (0 < length heads)
    token_lined t =
        let y = sym e ∙ not-false b t in
        let n = min (length starts) (min (length lengths) (length next)) in
        let l = ltb-true i n (and_fst (ltb i n) (ltb 0 (length heads)) y) in (
          record { started = omega (arith, l); sized = omega (arith, l); linked = omega (arith, l) },
          ltb-true 0 (length heads) (and_snd (ltb i n) (ltb 0 (length heads)) y),
        )

    pub token_unlined : {r : Place} → not b ≡ true → PlacesToken bytes starts lengths heads next i r
    token_unlined t =
        record {
          is =
              λ L s.
              let l : i < min (length starts) (min (length lengths) (length next)) = omega (arith, L.started, L.sized, L.linked) in
              absurd (false≢true (sym (not-true b t) ∙ e ∙ and_both _ _ (lt-ltb _ _ l) (lt-ltb _ _ s)));
        }

  pub places_token : {heads next : List ℕ} {i : ℕ} {r : Place} → Places bytes starts lengths heads next (spelling bytes starts lengths i) i r
      → PlacesToken bytes starts lengths heads next i r
  places_token P = record { is = λ _ _. P }

  -- a word, where there is no bucket
  pub word_nowhere : {heads next word : List ℕ} {r : Place} → length heads ≡ 0 → PlacesWord bytes starts lengths heads next word r
  word_nowhere z = record { is = λ s. absurd (omega (arith, z, s)) }

  pub places_word : {heads next word : List ℕ} {limit : ℕ} {r : Place} → limit ≡ min (length starts) (min (length lengths) (length next))
      → Places bytes starts lengths heads next (map lower word) limit r → PlacesWord bytes starts lengths heads next word r
  places_word e P = record { is = λ _. rw e at P }

  pub all_lined : {next : List ℕ} {limit : ℕ} → limit ≡ min (length starts) (min (length lengths) (length next)) → Lined bytes starts lengths next limit
  all_lined e = record { started = omega (arith, e); sized = omega (arith, e); linked = omega (arith, e) }
