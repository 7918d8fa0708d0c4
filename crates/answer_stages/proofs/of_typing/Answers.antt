-- `answer_stages::of_typing` meets its contract: one arm for each answer of a typing. Assumes nothing.
use Rattle.answer_stages.proofs.KindLaws.{of_typed, of_fault}
use Rattle.answer_stages.proofs.of_typing.Goals as goal

pub returns-in-Ok : goal.returns-in-Ok
returns-in-Ok c = of_typed c.args.starts.now c.args.tokens.now c.args.n c.in-Ok.is

pub returns-in-Err : goal.returns-in-Err
returns-in-Err c = of_fault c.args.starts.now c.args.tokens.now c.args.n c.in-Err.is c.get_or.ensures c.index-token.ensures c.get_or-in-Err.ensures
