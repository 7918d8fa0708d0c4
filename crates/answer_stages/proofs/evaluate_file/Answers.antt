-- `answer_stages::evaluate_file` meets its contract: there is nothing to evaluate after a refusal. Assumes nothing.
use Rattle.std.proofs.lemmas.Result.{err_from_is_err_and}
use Rattle.answer_stages.proofs.AnswerLaws.{evaluated, not_evaluated}
use Rattle.answer_stages.proofs.evaluate_file.Goals as goal

pub returns-in_err-n : goal.returns-in_err-n
returns-in_err-n c =
    let p = err_from_is_err_and c.from_residual.result c.from_residual.ensures.1 in
    rw (p.1, p.2) (not_evaluated c.in_err-n.was)

pub returns : goal.returns
returns c = evaluated c.in_ok-n.was c.evaluate_constants-needed.ensures c.evaluate_constants-needed.auto.room c.of_room.ensures
