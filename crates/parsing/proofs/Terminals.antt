-- Sets of terminals in code: a test of a code, as a test of the set. Assumes nothing.
use mathlib.Core.Bool.{Bool, true, false, false≢true}
use mathlib.Core.List.{List, [], ◌∷◌}
use mathlib.Core.Logic.{⊎_elim}
use mathlib.Core.Path.{◌≡◌, sym, ap, ◌∙◌}
use Prim.Native.Nat.{ℕ, ◌≤◌, ◌<◌}
use lib.ListN.{length, get_or, get_or-eq_default}
use borrow.Author.Tests.{eq-eqb, ne_eqb}
use Rattle.ebnf.specs.Set.{mem}
use Rattle.ebnf.proofs.Sets.{lt_or_le}

-- a code that is one number
pub is_one : (c d : ℕ) → c ≡ d → mem c (d ∷ []) ≡ true
unfolding mem
is_one c d e = rw (eq-eqb c d e)

pub not_one : (c d : ℕ) → (c ≡ d → ⊥) → mem c (d ∷ []) ≡ false
unfolding mem
not_one c d e = rw (ne_eqb c d e)

-- a token that is of a set without 0 is within the list
pub inside : (ts cs : List ℕ) (i : ℕ) → mem 0 cs ≡ false → mem (get_or ts i 0) cs ≡ true → i < length ts
inside ts cs i z h =
    ⊎_elim (λ (l : i < length ts). l)
    (λ (l : length ts ≤ i). absurd (false≢true (sym z ∙ (ap (λ (c : ℕ). mem c cs) (sym (get_or-eq_default ts 0 l)) ∙ h))))
    (lt_or_le i (length ts))

-- a test on a token, as the code makes it
pub seen : (ts : List ℕ) (q : ℕ) (cs : List ℕ) {t : ℕ} {b v : Bool} → t ≡ get_or ts q 0 → b ≡ mem t cs → b ≡ v → mem (get_or ts q 0) cs ≡ v
seen ts q cs f j z = ap (λ (x : ℕ). mem x cs) (sym f) ∙ (sym j ∙ z)

pub seen_one : (ts : List ℕ) (q d : ℕ) {t : ℕ} → t ≡ get_or ts q 0 → t ≡ d → mem (get_or ts q 0) (d ∷ []) ≡ true
seen_one ts q d f h = is_one (get_or ts q 0) d (sym f ∙ h)

pub seen_other : (ts : List ℕ) (q d : ℕ) {t : ℕ} → t ≡ get_or ts q 0 → (t ≡ d → ⊥) → mem (get_or ts q 0) (d ∷ []) ≡ false
seen_other ts q d f h = not_one (get_or ts q 0) d (λ k. h (f ∙ k))
