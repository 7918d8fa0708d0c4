use Rattle.express.specs.Tokens.Bytes.{word_byte}
use Rattle.express.specs.Tokens.Lexis.{run}
use mathlib.Core.Path.{◌≡◌}
use Rattle.scan.proofs.Bytes.word_rest.Given as goal

abbrev pub invariant-loop-i : goal.invariant-loop-i
invariant-loop-i l = run word_byte l.s l.i ≡ run word_byte l.s l.at
