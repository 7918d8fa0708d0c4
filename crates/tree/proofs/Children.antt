-- Each child of a node from the child behind it.
use mathlib.Core.Path.{◌≡◌, ap, ◌∙◌}
use mathlib.Core.List.{List}
use Prim.Native.Nat.{ℕ, ◌-◌}
use lib.ListN.{get_or}
use Rattle.express.specs.Syntax.Tree.{before, left, middle, lower, low}
use Rattle.tree.specs.Children.{Child}

module _ {sizes : List ℕ} {n : ℕ} where
  pub child_before : {s r : ℕ} → s ≡ get_or sizes n 0 → r ≡ n - s → Child before sizes n r
  child_before p q = record { is = λ e h. q ∙ rw (p, ← h) }

  pub child_left : {m r : ℕ} → m ≡ n - 1 → Child before sizes m r → Child left sizes n r
  child_left p q = record { is = λ e h. q.is e h ∙ ap (before e) p }

  pub child_middle : {m r : ℕ} → Child left sizes n m → Child before sizes m r → Child middle sizes n r
  child_middle p q = record { is = λ e h. q.is e h ∙ ap (before e) (p.is e h) }

  pub child_lower : {m r : ℕ} → Child middle sizes n m → Child before sizes m r → Child lower sizes n r
  child_lower p q = record { is = λ e h. q.is e h ∙ ap (before e) (p.is e h) }

  pub child_low : {m r : ℕ} → Child lower sizes n m → Child before sizes m r → Child low sizes n r
  child_low p q = record { is = λ e h. q.is e h ∙ ap (before e) (p.is e h) }
