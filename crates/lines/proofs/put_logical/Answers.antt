-- `lines::put_logical` meets its contract, by the rank. Assumes nothing.
use native.Mathlib.Omega.{arith}
use Rattle.lines.proofs.Pieces.{renamed}
use Rattle.lines.proofs.Numbers.{false_is, unknown_is, true_is}
use Rattle.lines.proofs.put_logical.Goals as goal

pub returns-in-0 : goal.returns-in-0
returns-in-0 c = renamed c.put_text.ensures (false_is _ c.in-0.is)

pub returns-in-1 : goal.returns-in-1
returns-in-1 c = renamed c.put_text-in-1.ensures (unknown_is _ c.in-1.is)

pub returns-in_default : goal.returns-in_default
returns-in_default c = renamed c.put_text-in_default.ensures (true_is c.args.rank (λ e. omega arith) (λ e. omega arith))
