use mathlib.Core.Path.{◌≡◌}
use Rattle.express.specs.Tokens.Lexis.{run}
use Rattle.blanks.specs.Step.{member}
use Rattle.blanks.proofs.run_end.Given as goal

abbrev pub invariant-loop-i : goal.invariant-loop-i
invariant-loop-i l = run (member l.class) l.s l.i ≡ run (member l.class) l.s l.at
