-- Links of a chain that falls: an entry plus one, or 0 at its end.
use Rattle.std.specs.Prelude.{Bool, cond, ℕ, zero, suc}

-- the last number below i that passes the test, as a link: one more, or 0 where none does
unfoldable pub last_index_below : (ℕ → Bool) → ℕ → ℕ
last_index_below p zero = 0
last_index_below p (suc i) = let earlier = last_index_below p i in cond (p i) (suc i) earlier
