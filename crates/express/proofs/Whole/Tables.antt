-- The entries of a table: no column is shorter.
use mathlib.Core.Path.{◌≡◌}
use Prim.Native.Nat.{ℕ, min, ◌≤◌}
use mathlib.Core.List.{List, [], ◌∷◌, Memᴰ}
use native.Mathlib.Omega.{arith}
use native.Mathlib.Nat.{le_trans, min-le_left, min-le_right}
use Rattle.express.specs.Whole.Reply.{shortest}

pub shortest_le : (ns : List ℕ) (n : ℕ) → Memᴰ n ns → shortest ns ≤ n
shortest_le [] n x' = elim x' [ ]
shortest_le (m ∷ []) n (Memᴰ.tail i) = elim i [ ]
shortest_le (m ∷ []) n (Memᴰ.head e) = omega (arith, e)
shortest_le (m ∷ k ∷ ns) n (Memᴰ.head e) = omega (arith, e, min-le_left m (shortest (k ∷ ns)))
shortest_le (m ∷ k ∷ ns) n (Memᴰ.tail i) = le_trans (min-le_right m (shortest (k ∷ ns))) (shortest_le (k ∷ ns) n i)

-- two and two
pub shortest_four : (a b c d : ℕ) → min (min a b) (min c d) ≡ shortest (a ∷ b ∷ c ∷ d ∷ [])
shortest_four a b c d = omega arith
