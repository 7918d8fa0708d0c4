-- What `cmp` tells of two numbers, as the order that relations go by.
use mathlib.Core.Path.{refl, sym}
use Rattle.std.specs.Prelude.{◌≡◌, ℕ, ◌<◌}
use Prim.Native.Nat.{compare}
use Rattle.std.specs.Cmp.{ranks}
use Rattle.std.specs.Ordering.{nat_cmp, ordering_then, MatchOrdering}
use Rattle.std.specs.declared.cmp.Ordering.{Ordering}
use Rattle.std.specs.declared.cmp.Ordering.TheVariants.{Less, Equal, Greater}
use Rattle.relations.specs.Order.{then}
use Rattle.express.proofs.Semantics.Order.{compare_lt, compare_gt, compare_eq}
use Rattle.values.specs.Meaning.{ordering_of}

pub order_is : (m n : ℕ) (o : Ordering) → MatchOrdering o (m < n) (m ≡ n) (n < m) → ordering_of o ≡ compare m n
order_is m n Less h = sym (compare_lt m n h)
order_is m n Equal h = sym (compare_eq m n h)
order_is m n Greater h = sym (compare_gt m n h)

pub number_order : (m n : ℕ) → ordering_of (nat_cmp m n) ≡ compare m n
number_order m n = order_is m n (nat_cmp m n) (ranks m n)

pub then_order : (o p : Ordering) → ordering_of (ordering_then o p) ≡ then (ordering_of o) (ordering_of p)
then_order Less p = refl
then_order Equal p = refl
then_order Greater p = refl
