use mathlib.Core.Path.{ap, ◌∙◌}
use lib.ListN.{length}
use lib.Seq.{sets}
use Rattle.literals.proofs.Strings.{written_none, written_more, counted_all, written_all, value_is}
use Rattle.literals.proofs.string_bytes.Goals as goal

pub loop-i-init : goal.loop-i-init
loop-i-init c = written_none _ _ _

pub loop-i-preserved : goal.loop-i-preserved
loop-i-preserved c = written_more c.loop-i.invariant c.loop-i-test.true c.width-i.ensures c.put_behind.ensures

pub shape_of-out : goal.shape_of-out
shape_of-out c = c.loop-i.invariant.len

pub returns : goal.returns
returns c =
    let e = value_is c.between-text.ensures c.token.ensures in
    (counted_all c.loop-i.invariant.counted c.loop-i-test.false ∙ ap length e, written_all c.loop-i.invariant c.loop-i-test.false ∙ ap (sets c.args.out.now c.args.at) e)
