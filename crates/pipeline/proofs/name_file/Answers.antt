-- `pipeline::name_file` meets its contract: the names are resolved, or a refusal passed on. Assumes nothing.
use Rattle.std.proofs.lemmas.Result.{err_from_is_err_and}
use Rattle.pipeline.proofs.Naming.{named_file, passed_names}
use Rattle.pipeline.proofs.name_file.Goals as goal

pub returns-in_err-n : goal.returns-in_err-n
returns-in_err-n c =
    let p = err_from_is_err_and c.from_residual.result c.from_residual.ensures.1 in
    rw (p.1, p.2) (passed_names c.in_err-n.was)

pub returns : goal.returns
returns c = named_file c.in_ok-n.was c.resolve-resolution.ensures c.of_resolution.ensures
