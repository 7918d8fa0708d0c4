use Rattle.products.proofs.Quotients.{mod_zero, mod_opposite, mod_same}
use Rattle.products.proofs.modulo.Goals as goal

pub returns-then-b-eq0 : goal.returns-then-b-eq0
returns-then-b-eq0 c = mod_zero _ c.ranges.b c.if-b-eq0.true

pub returns-then-b-lt0 : goal.returns-then-b-lt0
returns-then-b-lt0 c = (mod_opposite c.ranges.a c.ranges.b c.if-b-eq0.false c.wrapping_rem_euclid-r.ensures c.if-b-lt0.true).value

pub returns-else-b-lt0 : goal.returns-else-b-lt0
returns-else-b-lt0 c = mod_same c.ranges.a c.ranges.b c.if-b-eq0.false c.wrapping_rem_euclid-r.ensures c.if-b-lt0.false
