use native.Mathlib.Omega.{arith}
use mathlib.Core.Path.{sym}
use lib.Seq.{set_out}
use Rattle.literals.proofs.put_behind.Goals as goal

pub returns-else-n-saturating_sub : goal.returns-else-n-saturating_sub
returns-else-n-saturating_sub c = sym (set_out _ _ _ (omega (arith, c.saturating_sub.ensures, c.if-n-saturating_sub.false)))
