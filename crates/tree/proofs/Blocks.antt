-- A block in which no node passes the test is passed over: the first that passes stands behind it.
use mathlib.Core.Path.{◌≡◌, refl, sym, ap, ◌∙◌}
use mathlib.Core.Logic.{⊎_elim}
use mathlib.Core.Bool.{Bool, true, false, ◌||◌, false≢true}
use Prim.Native.Nat.{ℕ, zero, suc, ◌+◌, ◌-◌, ◌≤◌, ◌<◌}
use native.Mathlib.Omega.{arith}
use Rattle.relations.specs.Select.{span, first_from, any}
use Rattle.relations.proofs.Select.{untrue, le_or, mem_any, mem_span, first_is, first_of, first_step, span_step, span_end}
use Rattle.tree.specs.Blocks.{Skips}

-- ---- one block: what was found, or is still to come
pub record Looking (p : ℕ → Bool) (from block n : ℕ) (found : Bool) : Type 0 where
  pub is : found || any p (span n (from + block - n)) ≡ any p (span from block)

module _ {p : ℕ → Bool} {from block : ℕ} where
  pub looking_starts : Looking p from block from false
  looking_starts = let z : from + block - from ≡ block = omega arith in record { is = ap (λ (d : ℕ). any p (span from d)) z }

  pub looking_on : {n : ℕ} {found : Bool} → n < from + block → Looking p from block n found → Looking p from block (n + 1) (found || p n)
  unfolding any
  looking_on {n} {found} l L = record { is = or_assoc found (p n) (any p (span (n + 1) (from + block - (n + 1)))) ∙ (rw (span_step (from + block) n l) at L.is) }
    where
      or_assoc : (a b c : Bool) → (a || b) || c ≡ a || (b || c)
      or_assoc true b c = refl
      or_assoc false b c = refl

  pub looking_ends : {n : ℕ} {found : Bool} → from + block ≤ n → Looking p from block n found → found ≡ any p (span from block)
  unfolding any
  looking_ends {n} {found} l L = or_false found ∙ (rw (span_end (from + block) n l) at L.is)
    where
      or_false : (b : Bool) → b ≡ b || false
      or_false true = refl
      or_false false = refl

-- ---- block after block
module _ (p : ℕ → Bool) (n : ℕ) where
  past : (i k : ℕ) → i + k ≤ n → ((j : ℕ) → i ≤ j → j < i + k → p j ≡ false) → first_from p (i + k) (n - (i + k)) ≡ first_from p i (n - i)
  past i zero l h = let q : i + 0 ≡ i = omega arith in rw q
  past i (suc k) l h =
      let q : i + suc k ≡ i + 1 + k = omega arith in
      let more = past (i + 1) k (omega arith) (λ j a b. h j (omega arith) (omega arith)) in
      let here : first_from p i (n - i) ≡ first_from p (i + 1) (n - (i + 1)) = first_step p n i (omega arith) ∙ rw (h i (omega arith) (omega arith)) in
      ap (λ (x : ℕ). first_from p x (n - x)) q ∙ more ∙ sym here

  pub skips_on : {i j r : ℕ} → Skips p n i j → Skips p n j r → Skips p n i r
  skips_on S T = record { is = T.is ∙ S.is }

  pub skips_none : (i : ℕ) → Skips p n i i
  skips_none i = record { is = refl }

  pub skips_block : {i at : ℕ} (block : ℕ) → Skips p n i at → at + block ≤ n → {b : Bool} → b ≡ any p (span at block) → b ≡ false → Skips p n i (at + block)
  skips_block {i} {at} block S l e f =
      record { is = past at block l (λ j a b. untrue (p j) (λ h. false≢true (sym f ∙ e ∙ mem_any p (span at block) (mem_span at block j a b) h))) ∙ S.is }

  -- ---- the first before an end: it is the first of all, or there is none up to the end
  pub first_before : (i e : ℕ) {f : ℕ} → f ≡ first_from p i (e - i) → f < e → e ≤ n → f ≡ first_from p i (n - i)
  first_before i e {f} q l k =
      let F = first_is p i (e - i) in
      let a = F.from in
      q ∙ sym (first_of p n i (first_from p i (e - i)) a (omega (arith, q)) (F.passes (omega (arith, q))) F.none)

  pub skips_near : (i e : ℕ) {f : ℕ} → f ≡ first_from p i (e - i) → e ≤ f → e ≤ n → Skips p n i f
  skips_near i e {f} q l k =
      let F = first_is p i (e - i) in
      let a = F.from in
      let u = F.upto in
      ⊎_elim
      (λ (b : i ≤ e).
      let z : f ≡ i + (e - i) = omega (arith, q) in
      record { is = rw z (past i (e - i) (omega arith) (λ j x y. F.none j x (omega (arith, q)))) })
      (λ (b : e < i). let z : f ≡ i = omega (arith, q) in record { is = rw z })
      (le_or i e)
