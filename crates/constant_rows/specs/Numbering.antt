-- The row of each constant in the answer columns (K36).
use Rattle.std.specs.Prelude.{◌≡◌, List, ◌⊎◌, ℕ, ◌≤◌, ◌<◌, eqb, length, get_or}
use Rattle.relations.specs.Select.{span, keep}
use Rattle.express.specs.Syntax.NodeKind as node

-- how many constants stand before a node: of a constant, its row (K36)
abbrev pub row_in : List ℕ → ℕ → ℕ
row_in kinds n = length (keep (λ m. eqb (get_or kinds m 0) node.constant) (span 0 n))

-- v stands in the entries from lo up to hi, as far as the column reaches; all others are as they were
pub record Fills (v lo hi : ℕ) (was column : List ℕ) : Type 0 where
  pub inside : (m : ℕ) → lo ≤ m → m < hi → m < length was → get_or column m 0 ≡ v
  pub outside : (m : ℕ) → (m < lo) ⊎ (hi ≤ m) → get_or column m 0 ≡ get_or was m 0

-- the row of each constant, by node; nodes are numbered with 32 bits
pub record NumbersRows (kinds row_of row_of' : List ℕ) : Type 0 where
  pub is : length kinds ≤ 4294967296 → (n : ℕ) → n < length kinds → n < length row_of → get_or row_of' n 0 ≡ row_in kinds n
