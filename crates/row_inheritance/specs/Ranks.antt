-- The entities of a file by their ranks: numbers from 1 on, in the order of the text.
use Rattle.std.specs.Prelude.{◌≡◌, Bool, cond, List, ℕ, zero, suc, ◌+◌, ◌<◌, eqb, length, get_or}
use Rattle.express.specs.Syntax.NodeKind.{entity}

-- is the declaration of a number an entity?
abbrev pub entity_at : List ℕ → List ℕ → ℕ → Bool
entity_at kinds nodes v = eqb (get_or kinds (get_or nodes v 0) 0) entity

-- the entities among the first v declarations
unfoldable pub entities_before : List ℕ → List ℕ → ℕ → ℕ
entities_before kinds nodes zero = 0
entities_before kinds nodes (suc v) = let before = entities_before kinds nodes v in cond (entity_at kinds nodes v) (before + 1) before

-- 0 is the rank of what is no entity
unfoldable pub rank_in : List ℕ → List ℕ → ℕ → ℕ
rank_in kinds nodes v = cond (entity_at kinds nodes v) (entities_before kinds nodes v + 1) 0

-- `rank_entities`: each declaration gets its rank, as far as ranks are numbers of 32 bits
pub record RanksEntities (kinds nodes ranks : List ℕ) (r : ℕ) (ranks' : List ℕ) : Type 0 where
  pub total : r ≡ entities_before kinds nodes (length ranks)
  pub is : length ranks < 4294967296 → (v : ℕ) → v < length ranks → get_or ranks' v 0 ≡ rank_in kinds nodes v
