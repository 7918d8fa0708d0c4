use Rattle.express.specs.Semantics.Logic.{AND}
use Rattle.test_exports.proofs.Answers.{rank_two}
use Rattle.test_exports.proofs.logicals.woffulent_and.Goals as goal

pub returns : goal.returns
returns c = rank_two c.from.ensures AND c.and.ensures c.logical.ensures c.logical-2.ensures
