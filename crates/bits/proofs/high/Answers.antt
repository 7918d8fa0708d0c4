use Rattle.bits.proofs.Strings.{shifted_or}
use Rattle.bits.proofs.high.Goals as goal

pub returns : goal.returns
returns c = shifted_or c.args.n c.args.k _ c.ranges.n c.checked_shr.ensures c.unwrap_or.ensures
