-- Finite sets of numbers, as lists, with tests that compute.
use Rattle.std.specs.Prelude.{Bool, true, false, not, ◌&&◌, ◌||◌, List, [], ◌∷◌, ℕ, eqb}

-- x is in the set
unfoldable pub mem : ℕ → List ℕ → Bool
mem x [] = false
mem x (c ∷ cs) = eqb x c || mem x cs

-- no number is in both
unfoldable pub disjoint : List ℕ → List ℕ → Bool
disjoint [] bs = true
disjoint (a ∷ l) bs = not (mem a bs) && disjoint l bs

-- each number of the first is in the second
unfoldable pub subset : List ℕ → List ℕ → Bool
subset [] bs = true
subset (a ∷ l) bs = mem a bs && subset l bs
