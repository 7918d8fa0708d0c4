-- Looking for a node block by block.
use Rattle.std.specs.Prelude.{◌≡◌, Bool, ℕ, ◌-◌}
use Rattle.relations.specs.Select.{first_from}

-- of the numbers below n, the first from r on that passes a test is the first from i on
pub record Skips (p : ℕ → Bool) (n i r : ℕ) : Type 0 where
  pub is : first_from p r (n - r) ≡ first_from p i (n - i)
