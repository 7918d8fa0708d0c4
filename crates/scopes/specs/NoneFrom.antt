-- Nodes that a pass from the last to the first may leave out.
use Rattle.std.specs.Prelude.{◌≡◌, Bool, false, ℕ, ◌≤◌, ◌<◌}

-- no node from r up to an end passes a test; none below lo is left out
pub record NoneFrom (test : ℕ → Bool) (lo end r : ℕ) : Type 0 where
  pub low : r ≤ end
  pub from : r < end → lo ≤ r
  pub none : (n : ℕ) → r ≤ n → n < end → test n ≡ false
