use Rattle.products.proofs.Quotients.{div_zero}
use Rattle.products.proofs.div.Goals as goal

pub returns-then-b-eq0 : goal.returns-then-b-eq0
returns-then-b-eq0 c = div_zero _ c.ranges.b c.if-b-eq0.true
