-- `answer_stages::answer_file` meets its contract: what is typed is evaluated. Assumes nothing.
use Rattle.answer_stages.proofs.AnswerLaws.{answered}
use Rattle.answer_stages.proofs.answer_file.Goals as goal

pub returns : goal.returns
returns c = answered c.type_file-typed.ensures c.type_file-typed.auto.scratch c.evaluate_file.ensures
