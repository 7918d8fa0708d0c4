use Rattle.bits.proofs.Strings.{compared}
use Rattle.bits.proofs.compare.Goals as goal

pub returns : goal.returns
returns c = compared c.args.a c.args.b c.min-l.ensures c.first-m.ensures c.first-n.ensures c.cmp.ensures c.cmp-2.ensures c.then.ensures
