use mathlib.Core.Path.{◌≡◌}
use Prim.Native.Nat.{◌≤◌}
use lib.ListN.{drop}
use Rattle.express.specs.Tokens.Lexis.{numeral, greatest}
use Rattle.literals.proofs.numeral_of.Given as goal

abbrev pub invariant-loop-b : goal.invariant-loop-b
invariant-loop-b l = (l.v ≤ greatest) × (numeral l.base l.v (drop l.b-index l.digits) ≡ numeral l.base l.before l.digits)
