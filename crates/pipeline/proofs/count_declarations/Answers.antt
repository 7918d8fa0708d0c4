-- `pipeline::count_declarations` meets its contract: the nodes are counted from the first on. Assumes nothing.
use Rattle.std.proofs.Common.{rules}
use Rattle.pipeline.proofs.Binding.{declarations_counted}
use Rattle.pipeline.proofs.count_declarations.Goals as goal

pub returns : goal.returns
returns c = declarations_counted (search rules)
