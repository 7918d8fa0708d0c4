-- Bytes that are stored one after the other, as far as there are places.
use mathlib.Core.Path.{◌≡◌, refl, sym, ap, ap₂, ◌∙◌}
use mathlib.Core.List.{List, [], ◌∷◌, ◌++◌, append-nil, flat_map}
use Prim.Native.Nat.{ℕ, min, ◌+◌, ◌-◌, ◌≤◌, ◌<◌}
use native.Mathlib.Decide.{dec_lt}
use native.Mathlib.Omega.{arith}
use native.Mathlib.Numerals.{add-one}
use lib.ListN.{length, get_or, set, take, drop, length-set, length-take, length-drop, length-append}
use lib.Seq.{sets, length-sets, length-take-le, take-suc, get_or-take, get_or-drop}
use Rattle.columns.proofs.Laws.{sets_out, sets_append, sets_snoc}
use Rattle.relations.specs.Select.{span}
use Rattle.relations.proofs.Select.{span_append}
use Rattle.string_laws.proofs.Leaves.{flat_append}
use Rattle.string_bytes.specs.Spelling.{Writes, Spells}

pub writes_none : {at : ℕ} {out : List ℕ} → Writes [] at out out 0
writes_none = record { many = refl; is = refl }

-- ---- a part of some bytes

module _ (from : List ℕ) (start size : ℕ) where
  abbrev pub part : List ℕ
  part = take size (drop start from)

  part_long : length part ≡ min size (length from - start)
  part_long = omega (arith, length-take size (drop start from), length-drop start from)

  -- i bytes of it are copied
  pub record Copied (out₀ : List ℕ) (at : ℕ) (out : List ℕ) (i : ℕ) : Type 0 where
    pub low : i ≤ length part
    pub is : out ≡ sets out₀ at (take i part)
    pub len : length out ≡ length out₀

  module _ {first end : ℕ} (first_is : first ≡ min start (length from)) (end_is : end ≡ min size (length from - first)) where
    pub all_of : end ≡ length part
    all_of = omega (arith, part_long)

    pub inside : {i : ℕ} → i < end → first + i < length from
    inside l = omega arith

    byte_at : {i : ℕ} → i < end → get_or from (first + i) 0 ≡ get_or part i 0
    byte_at {i} l =
        let same : first + i ≡ start + i = omega arith in
        ap (λ (j : ℕ). get_or from j 0) same ∙ sym (get_or-take size (drop start from) i 0 (omega arith) ∙ get_or-drop start from i 0)

    pub copied_more : {out₀ : List ℕ} {at : ℕ} {out out' : List ℕ} {i : ℕ} → Copied out₀ at out i → i < end →
        out' ≡ set out (at + i) (get_or from (first + i) 0) → Copied out₀ at out' (i + 1)
    copied_more {out₀} {at} {out} {out'} {i} C l e =
        let w : i < length part = omega (arith, all_of) in
        let n : at + length (take i part) ≡ at + i = omega (arith, length-take-le i part (omega arith)) in
        record {
          low = omega arith;
          is =
              e ∙ ap₂ (λ (xs : List ℕ) (b : ℕ). set xs (at + i) b) C.is (byte_at l) ∙
              ap (λ (j : ℕ). set (sets out₀ at (take i part)) j (get_or part i 0)) (sym n) ∙
              sym (sets_snoc out₀ at (take i part) (get_or part i 0)) ∙ ap (sets out₀ at) (sym (take-suc part i 0 w)) ∙
              ap (λ (j : ℕ). sets out₀ at (take j part)) (sym (add-one i));
          len = ap length e ∙ length-set out (at + i) (get_or from (first + i) 0) ∙ C.len;
        }

-- ---- one piece after the other

pub spells_none : (out : List ℕ) → Spells [] out out 0
spells_none out = record { ends = omega arith; is = refl }

pub spells_long : {bytes out out' : List ℕ} {at : ℕ} → Spells bytes out out' at → length out' ≡ length out
spells_long {bytes} {out} S = ap length S.is ∙ length-sets out 0 bytes

pub spells_more : {bytes piece out₀ out out' : List ℕ} {at size k : ℕ} → Spells bytes out₀ out at → Writes piece at out out' size → k ≡ min size (length out - at) →
    Spells (bytes ++ piece) out₀ out' (at + k)
spells_more {bytes} {piece} {out₀} {out} {out'} {at} {size} {k} S W e =
    let l = spells_long S in
    let a = S.ends in
    let m = W.many in
    record {
      ends = omega (arith, length-append bytes piece);
      is = W.is ∙ here (dec_lt (length bytes) (length out));
    }
  where
    here : Dec (length bytes < length out) → sets out at piece ≡ sets out₀ 0 (bytes ++ piece)
    here (yes h) =
        let q : at ≡ 0 + length bytes = omega (arith, S.ends, spells_long S) in
        ap₂ (λ (xs : List ℕ) (j : ℕ). sets xs j piece) S.is q ∙ sym (sets_append out₀ 0 bytes piece)
    here (no h) =
        let q : length out ≤ at = omega (arith, S.ends, spells_long S) in
        let r : length (sets out₀ 0 bytes) ≤ 0 + length bytes = omega (arith, length-sets out₀ 0 bytes, spells_long S) in
        sets_out out at piece q ∙ S.is ∙ sym (sets_append out₀ 0 bytes piece ∙ sets_out (sets out₀ 0 bytes) (0 + length bytes) piece r)

-- ---- nodes one after the other
module _ (f : ℕ → List ℕ) where
  append_map : (ns : List ℕ) (n : ℕ) → flat_map f (ns ++ (n ∷ [])) ≡ flat_map f ns ++ f n
  unfolding flat_map
  append_map ns n = flat_append f ns (n ∷ []) ∙ ap (λ (s : List ℕ). flat_map f ns ++ s) (append-nil (f n))

  pub nodes_none : (lo : ℕ) → flat_map f (span lo (lo - lo)) ≡ []
  unfolding flat_map span
  nodes_none lo = let z : lo - lo ≡ 0 = omega arith in rw z

  pub nodes_more : (lo n : ℕ) → lo ≤ n → flat_map f (span lo (n + 1 - lo)) ≡ flat_map f (span lo (n - lo)) ++ f n
  unfolding span
  nodes_more lo n l =
      let k : n + 1 - lo ≡ (n - lo) + 1 = omega arith in
      let m : lo + (n - lo) ≡ n = omega arith in
      ap (λ (j : ℕ). flat_map f (span lo j)) k ∙ ap (flat_map f) (span_append lo (n - lo) 1) ∙
      ap (λ (j : ℕ). flat_map f (span lo (n - lo) ++ (j ∷ []))) m ∙ append_map (span lo (n - lo)) n
