-- `spellings::stir` meets its contract: the factor leaves room for a carry. Assumes nothing.
use Rattle.spellings.proofs.Spellings.{stirred_is, stirred_fits}
use native.Mathlib.Omega.{arith}
use Rattle.spellings.proofs.stir.Goals as goal

pub overflow_add-result-2 : goal.overflow_add-result-2
overflow_add-result-2 c = record { fits = stirred_fits c.args.h c.wide.result (omega (arith, c.ranges.h)) c.wide.ensures.1 }

pub returns : goal.returns
returns c = stirred_is c.args.h c.wide.ensures.0
