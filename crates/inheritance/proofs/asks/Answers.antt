-- `inheritance::asks` meets its contract. Assumes nothing.
use Rattle.inheritance.proofs.Asking.{asks_told}
use Rattle.inheritance.proofs.asks.Goals as goal

pub returns : goal.returns
returns c = asks_told c.args.kind c.args.role c.either-by_role.ensures c.both.ensures c.is_attribute.ensures c.either.ensures
