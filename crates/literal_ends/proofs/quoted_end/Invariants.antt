use mathlib.Core.Path.{◌≡◌}
use mathlib.Core.Bool.{false}
use Prim.Native.Nat.{◌+◌}
use lib.ListN.{drop}
use Rattle.express.specs.Tokens.Lexis.{end_of_string}
use Rattle.literal_ends.proofs.quoted_end.Given as goal

abbrev pub invariant-loop-i : goal.invariant-loop-i
invariant-loop-i l = end_of_string l.at l.quote l.i (drop l.i l.s) ≡ end_of_string l.at false (l.at + 1) (drop (l.at + 1) l.s)
