use Rattle.express.specs.Semantics.Logic.{XOR}
use Rattle.test_exports.proofs.Answers.{rank_two}
use Rattle.test_exports.proofs.logicals.woffulent_xor.Goals as goal

pub returns : goal.returns
returns c = rank_two c.from.ensures XOR c.xor.ensures c.logical.ensures c.logical-2.ensures
