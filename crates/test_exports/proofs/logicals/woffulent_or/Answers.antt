use Rattle.express.specs.Semantics.Logic.{OR}
use Rattle.test_exports.proofs.Answers.{rank_two}
use Rattle.test_exports.proofs.logicals.woffulent_or.Goals as goal

pub returns : goal.returns
returns c = rank_two c.from.ensures OR c.or.ensures c.logical.ensures c.logical-2.ensures
