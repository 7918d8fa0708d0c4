-- Logicals as numbers: the rank of what an operation gives.
use mathlib.Core.Path.{◌≡◌}
use Prim.Native.Nat.{ℕ, Ordering}
use Rattle.express.specs.Semantics.Answer.{Logical}
use Rattle.express.specs.Semantics.Logic.{rank, compare_logical}
use Rattle.express.specs.Semantics.Relation.{Relation, related}

module _ {r : ℕ} {x y z u v : Logical} (p : r ≡ rank z) where
  pub rank_two : (op : Logical → Logical → Logical) → z ≡ op x y → x ≡ u → y ≡ v → r ≡ rank (op u v)
  rank_two op q s t = rw (← s, ← t, ← q) p

  pub rank_related : {k j : Relation} {o : Ordering} → z ≡ related k o → k ≡ j → o ≡ compare_logical x y → x ≡ u → y ≡ v → r ≡ rank (related j (compare_logical u v))
  rank_related q s t g h = rw (← g, ← h, ← t, ← s, ← q) p
