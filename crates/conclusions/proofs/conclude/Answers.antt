-- `conclusions::conclude` meets its contract: each table is cleared by itself. Assumes nothing.
use Rattle.conclusions.proofs.Concluding.{concludes}
use Rattle.conclusions.proofs.conclude.Goals as goal

pub returns : goal.returns
returns c = concludes c.kept.ensures c.kept-2.ensures c.count.ensures c.kept-3.ensures c.clear_tokens.ensures c.clear_nodes.ensures c.clear_answers.ensures c.clear.ensures c.summary.ensures
