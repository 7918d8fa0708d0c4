-- Lists in which each stands after what it has edges to.
use mathlib.Core.List.{List, [], ◌∷◌, Memᴰ}
use Rattle.std.specs.Prelude.{ℕ}

-- each of a list has edges only to those before it, in the list or already passed
pub data Sorted (E : ℕ → ℕ → Type 0) : List ℕ → List ℕ → Type 0 where
  done : {passed : List ℕ} → Sorted E passed []
  next : {passed ds : List ℕ} {d : ℕ} → ((c : ℕ) → E d c → Memᴰ c passed) → Sorted E (d ∷ passed) ds → Sorted E passed (d ∷ ds)

-- a sorted list of some vertices
pub record Arranged (E : ℕ → ℕ → Type 0) (vs order : List ℕ) : Type 0 where
  pub sorted : Sorted E [] order
  pub complete : (v : ℕ) → Memᴰ v vs → Memᴰ v order
  pub among : (v : ℕ) → Memᴰ v order → Memᴰ v vs
