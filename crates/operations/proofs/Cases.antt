-- What an arm of a `match` for all other answers is told: the answer is at no variant that has an arm of its own.
use mathlib.Core.Path.{◌≡◌, refl}
use mathlib.Core.Option.{none}
use Prim.Native.Nat.{ℕ}
use Rattle.express.specs.Semantics.Operate.{string_in}
use Rattle.operations.specs.Meaning.{answer_of}
use Rattle.operations.specs.declared.Answer.{Answer}
use Rattle.operations.specs.declared.Answer.TheVariants.{Indeterminate, Integer, Logical, Binary, Item, Text, Ended}

pub not_string : (x : Answer) → ((k : ℕ) → x ≡ Text k → ⊥) → string_in (answer_of x) ≡ none
not_string Indeterminate h = refl
not_string (Integer z) h = refl
not_string (Logical l) h = refl
not_string (Binary b) h = refl
not_string (Item m) h = refl
not_string (Text k) h = absurd (h k refl)
not_string (Ended e) h = refl
