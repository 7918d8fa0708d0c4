-- `exact` gives the integer exactly from the least to the greatest of 64 signed bits.
use mathlib.Core.Path.{◌≡◌, refl, sym, ◌∙◌}
use mathlib.Core.Bool.{Bool, true, false, ◌&&◌, cond}
use Prim.Native.Nat.{◌^◌}
use lib.Dec.{ltb, leb, leb-suc-suc}
use lib.IntN.{ℤ, pos, negsuc}
use lib.Signed.{mag, le_z}
use Rattle.express.specs.Semantics.Answer.{integer, end}
use Rattle.express.specs.Semantics.Integer.{exact}

abbrev pub least : ℤ
least = negsuc 9223372036854775807

abbrev pub greatest : ℤ
greatest = pos 9223372036854775807

and_true : (b : Bool) → b && true ≡ b
and_true true = refl
and_true false = refl

in_range : (z : ℤ) → ltb (mag z) (2 ^ 63) ≡ (le_z least z && le_z z greatest)
in_range (pos n) = leb-suc-suc n 9223372036854775807
in_range (negsuc n) = leb-suc-suc n 9223372036854775807 ∙ sym (and_true (leb n 9223372036854775807))

pub range : (z : ℤ) → exact z ≡ cond (le_z least z && le_z z greatest) (integer z) (end 16)
unfolding exact
range z = rw (in_range z)
