-- `answer_stages::type_file` meets its contract: what is declared is known to the typing. Assumes nothing.
use Rattle.std.proofs.lemmas.Result.{err_from_is_err_and}
use Rattle.answer_stages.proofs.KindLaws.{typed_file, passed_file}
use Rattle.answer_stages.proofs.type_file.Goals as goal

pub returns-in_err-n : goal.returns-in_err-n
returns-in_err-n c =
    let p = err_from_is_err_and c.from_residual.result c.from_residual.ensures.1 in
    rw (p.1, p.2) (passed_file c.in_err-n.was)

pub returns : goal.returns
returns c = typed_file c.in_ok-n.was c.declared_types.ensures c.type_constants-typing.ensures c.of_typing.ensures
