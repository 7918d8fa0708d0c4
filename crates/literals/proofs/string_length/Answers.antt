use Rattle.literals.proofs.Strings.{counted_plain, counted_more, counted_all, value_is}
use mathlib.Core.Path.{ap, ◌∙◌}
use lib.ListN.{length}
use Rattle.literals.proofs.string_length.Goals as goal

pub loop-i-init : goal.loop-i-init
loop-i-init c = counted_plain _ c.unquoted-i.ensures

pub loop-i-preserved : goal.loop-i-preserved
loop-i-preserved c = counted_more c.loop-i.invariant c.loop-i-test.true c.width-i.ensures

pub returns : goal.returns
returns c = counted_all c.loop-i.invariant c.loop-i-test.false ∙ ap length (value_is c.between-text.ensures c.token.ensures)
