-- `stages::fit_constants` meets its contract: the count is compared with the entries, or a refusal passed on. Assumes nothing.
use Rattle.std.proofs.lemmas.Result.{err_from_is_err_and}
use Rattle.stages.proofs.Laws.{constants_fit, constants_short, constants_passed}
use Rattle.stages.proofs.fit_constants.Goals as goal

pub returns-in_err-before : goal.returns-in_err-before
returns-in_err-before c =
    let p = err_from_is_err_and c.from_residual.result c.from_residual.ensures.1 in
    rw (p.1, p.2) (constants_passed c.in_err-before.was)

pub returns-then-n-entries : goal.returns-then-n-entries
returns-then-n-entries c = constants_fit c.in_ok-before.was c.count_constants-n.ensures c.if-n-entries.true

pub returns : goal.returns
returns c = constants_short c.in_ok-before.was c.count_constants-n.ensures c.if-n-entries.false c.number.ensures
