-- Members of a list by their places.
use mathlib.Core.Path.{◌≡◌, refl, sym}
use mathlib.Core.Logic.{⊎_elim}
use mathlib.Core.List.Memᴰ
use mathlib.Core.List.{List, [], ◌∷◌, Memᴰ}
use Prim.Native.Nat.{ℕ, zero, suc, ◌<◌}
use native.Mathlib.Omega.{arith}
use lib.ListN.{length, get_or}

pub at_mem : (l : List ℕ) (k : ℕ) → k < length l → Memᴰ (get_or l k 0) l
at_mem [] k h = absurd (omega arith)
at_mem (x ∷ l) zero h = Memᴰ.head refl
at_mem (x ∷ l) (suc k) h = Memᴰ.tail (at_mem l k (omega arith))

pub record At (l : List ℕ) (x : ℕ) : Type 0 where
  pub place : ℕ
  pub below : place < length l
  pub is : get_or l place 0 ≡ x

pub mem_at : (l : List ℕ) (x : ℕ) → Memᴰ x l → At l x
mem_at [] x m = absurd (Memᴰ.not-nil m)
mem_at (y ∷ l) x m =
    ⊎_elim (λ q. record { place = 0; below = omega arith; is = sym q })
    (λ m'. let a = mem_at l x m' in record { place = suc a.place; below = omega (arith, a.below); is = a.is }) (Memᴰ.cases_cons m)
