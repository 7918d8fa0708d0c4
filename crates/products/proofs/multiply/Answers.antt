use Rattle.express.specs.Semantics.Integer.{product}
use Rattle.integers.proofs.Calls.{own_two}
use Rattle.integers.proofs.Exact.{checked_is}
use Rattle.products.proofs.multiply.Goals as goal

pub returns : goal.returns
returns c = own_two product c.ranges.a c.ranges.b (checked_is _ _ c.checked_mul.ensures c.ok_or.ensures.value)
