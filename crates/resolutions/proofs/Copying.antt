-- One column is copied to the front of another, entry by entry, and roles into bytes.
use mathlib.Core.Path.{◌≡◌, refl, sym, ap, ◌∙◌}
use mathlib.Core.Bool.{Bool, true, false, false≢true}
use mathlib.Core.List.{List}
use Prim.Native.Nat.{ℕ, ◌+◌, ◌%◌, ◌≤◌, ◌<◌, min}
use native.Mathlib.Omega.{arith}
use native.Mathlib.Numerals.{add-one}
use borrow.Author.Tests.{ltb-true, ltb-false}
use lib.Bits.{bit_or, or_add_and, and_le_l, and_le_r, or_lt}
use lib.Dec.{ltb}
use lib.ListN.{length, get_or, set, take, length-set}
use lib.Seq.{sets, take-suc, take_all, length-take-le}
use Rattle.columns.proofs.Laws.{sets_snoc, take_rows}
use Rattle.resolutions.specs.Answer.{Narrows}

-- so many entries are copied
pub record Copying (from into₀ into : List ℕ) (i : ℕ) : Type 0 where
  pub low : i ≤ min (length from) (length into₀)
  pub is : into ≡ sets into₀ 0 (take i from)
  pub len : length into ≡ length into₀

pub copying_starts : {from into : List ℕ} → Copying from into into 0
copying_starts {from} {into} = record { low = omega arith; is = refl; len = refl }

pub copying_goes_on : {from into₀ into : List ℕ} {i end : ℕ} → end ≡ min (length from) (length into₀) → i < end → Copying from into₀ into i →
    Copying from into₀ (set into i (get_or from i 0)) (i + 1)
copying_goes_on {from} {into₀} {into} {i} e l C =
    let n : 0 + length (take i from) ≡ i = omega (arith, length-take-le i from (omega arith)) in
    let w : i < length from = omega arith in
    record {
      low = omega arith;
      is =
          ap (λ (x : List ℕ). set x i (get_or from i 0)) C.is ∙ ap (λ (j : ℕ). set (sets into₀ 0 (take i from)) j (get_or from i 0)) (sym n)
          ∙ sym (sets_snoc into₀ 0 (take i from) (get_or from i 0)) ∙ ap (sets into₀ 0) (sym (take-suc from i 0 w)) ∙ ap (λ (j : ℕ). sets into₀ 0 (take j from)) (sym (add-one i));
      len = omega (arith, length-set into i (get_or from i 0), C.len);
    }

pub copying_ends : {from into₀ into : List ℕ} {i end : ℕ} → end ≡ min (length from) (length into₀) → end ≤ i → Copying from into₀ into i →
    into ≡ sets into₀ 0 (take (min (length from) (length into₀)) from)
copying_ends {from} {into₀} {into} {i} e l C =
    let same : i ≡ min (length from) (length into₀) = omega (arith, C.low) in
    C.is ∙ ap (λ (j : ℕ). sets into₀ 0 (take j from)) same

-- ---- roles into bytes

pub narrowed : {roles bytes₀ bytes : List ℕ} {i : ℕ} → length roles ≤ length bytes₀ → length roles ≤ i → Copying roles bytes₀ bytes i → Narrows roles (length bytes₀) true bytes
narrowed {roles} {bytes₀} {bytes} {i} fit l C =
    let same : i ≡ length roles = omega (arith, C.low) in
    let whole : bytes ≡ sets bytes₀ 0 roles = C.is ∙ ap (sets bytes₀ 0) (take_all i roles (omega (arith, same))) in
    record {
      fits = λ _. fit;
      front = λ _. ap (take (length roles)) whole ∙ take_rows bytes₀ roles fit;
      no = λ e. absurd (false≢true (sym e));
    }

-- false: a reason why not
pub not_narrowed : {roles bytes : List ℕ} {room : ℕ} → (length roles ≤ room → ((n : ℕ) → n < length roles → get_or roles n 0 < 256) → ⊥) → Narrows roles room false bytes
not_narrowed w = record { fits = λ e. absurd (false≢true e); front = λ e. absurd (false≢true e); no = λ e. w }

-- so many roles are copied, if they are bytes, and these are the bits of all of them
pub record Gathering (roles bytes₀ bytes : List ℕ) (all i : ℕ) : Type 0 where
  pub low : i ≤ length roles
  pub len : length bytes ≡ length bytes₀
  pub copied : all < 256 → Copying roles bytes₀ bytes i
  pub few : ((j : ℕ) → j < i → get_or roles j 0 < 256) → all < 256

pub gathering_starts : {roles bytes : List ℕ} → Gathering roles bytes bytes 0 0
gathering_starts = record { low = omega arith; len = refl; copied = λ _. copying_starts; few = λ _. omega arith }

pub gathering_goes_on : {roles bytes₀ bytes : List ℕ} {all i : ℕ} → length roles ≤ length bytes₀ → i < length roles → Gathering roles bytes₀ bytes all i →
    Gathering roles bytes₀ (set bytes i (get_or roles i 0 % 256)) (bit_or all (get_or roles i 0)) (i + 1)
gathering_goes_on {roles} {bytes₀} {bytes} {all} {i} fit l G =
    let x = get_or roles i 0 in
    record {
      low = omega arith;
      len = length-set bytes i (x % 256) ∙ G.len;
      copied = λ h.
          let s = or_add_and all x in
          let a = and_le_l all x in
          let b = and_le_r all x in
          let e : x % 256 ≡ x = omega (arith, h, s, a, b) in
          rw e (copying_goes_on {end = length roles} (omega arith) l (G.copied (omega (arith, h, s, a, b))));
      few = λ h. or_lt 8 all x (G.few (λ j k. h j (omega arith))) (h i (omega arith));
    }

pub gathered : {roles bytes₀ bytes : List ℕ} {all i : ℕ} → length roles ≤ length bytes₀ → length roles ≤ i → Gathering roles bytes₀ bytes all i →
    Narrows roles (length bytes₀) (ltb all 256) bytes
gathered {roles} {bytes₀} {bytes} {all} {i} fit l G = by (ltb all 256) refl
  where
    by : (b : Bool) → ltb all 256 ≡ b → Narrows roles (length bytes₀) b bytes
    by true e = narrowed fit l (G.copied (ltb-true all 256 e))
    by false e = not_narrowed (λ _ h. let a = ltb-false all 256 e in let w = G.few (λ j k. h j (omega (arith, k, G.low))) in omega (arith, a, w))
