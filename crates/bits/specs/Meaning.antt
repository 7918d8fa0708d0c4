-- What the types of the code stand for.
use Rattle.std.specs.Prelude.{◌≡◌, Bool, List, ◌^◌, ◌<◌, ◌≤◌, Result, Ok, Err}
use Rattle.express.specs.Semantics.Answer.{Answer, binary, end}
use Rattle.express.specs.Semantics.Bits.{bits, join}
use Rattle.values.specs.Meaning.{end_number}
use Rattle.values.specs.declared.End.{End}
use Rattle.bits.specs.declared.Binary.{Binary}

-- the list of a pair: the last `length` bits of `number`
abbrev pub bits_of : Binary → List Bool
bits_of b = bits b.length b.number

-- the answer that joining gives
abbrev pub binary_answer : Result Binary End → Answer
binary_answer (Ok b) = binary (bits_of b)
binary_answer (Err e) = end (end_number e)

-- the number has these bits and no others, and fits the number of an answer row
abbrev pub Canonical : Result Binary End → Type 0
Canonical (Ok b) = (b.number < 2 ^ b.length) × (b.length ≤ 63)
Canonical (Err e) = Unit {0}

pub record Joins (xs ys : List Bool) (r : Result Binary End) : Type 0 where
  pub is : binary_answer r ≡ join xs ys
  pub canonical : Canonical r
