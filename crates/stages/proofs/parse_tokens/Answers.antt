-- `stages::parse_tokens` meets its contract: the parse, or a refusal passed on. Assumes nothing.
use Rattle.std.proofs.lemmas.Result.{err_from_is_err_and}
use Rattle.stages.proofs.Laws.{parsed_tokens, passed_tokens}
use Rattle.stages.proofs.parse_tokens.Goals as goal

pub returns-in_err-before : goal.returns-in_err-before
returns-in_err-before c =
    let p = err_from_is_err_and c.from_residual.result c.from_residual.ensures.1 in
    rw (p.1, p.2) (passed_tokens c.in_err-before.was)

pub returns : goal.returns
returns c = parsed_tokens c.in_ok-before.was c.parse-parsed.ensures c.of_parse.ensures
