-- `stages::count_constants` meets its contract: the nodes are counted from the first on. Assumes nothing.
use Rattle.std.proofs.Common.{rules}
use Rattle.stages.proofs.Counting.{constants_counted}
use Rattle.stages.proofs.count_constants.Goals as goal

pub returns : goal.returns
returns c = constants_counted (search rules)
