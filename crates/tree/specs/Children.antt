-- The children of a node (G30).
use Rattle.std.specs.Prelude.{◌≡◌, List, ℕ}
use Rattle.express.specs.Syntax.Tree.{Table}

-- a child of a node, by the column of sizes
pub record Child (f : Table → ℕ → ℕ) (sizes : List ℕ) (n r : ℕ) : Type 0 where
  pub is : (e : Table) → e.sizes ≡ sizes → r ≡ f e n
