-- `strings::join` meets its contract: the sum of the lengths tells whether there is a string. Assumes nothing.
use Rattle.strings.proofs.Laws.{joined}
use Rattle.strings.proofs.join.Goals as goal

pub returns : goal.returns
returns c = joined c.args.a c.args.b _ c.checked_add.ensures c.ok_or.ensures.value
