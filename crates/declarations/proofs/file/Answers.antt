-- By its rule in Clauses, which takes each step's answer.
use Rattle.parsing.proofs.Laws.{handed_on}
use Rattle.clauses.proofs.Clauses.{file_refused, file_reads}
use Rattle.declarations.proofs.file.Goals as goal

pub returns-in_err-all : goal.returns-in_err-all
returns-in_err-all c = rw (handed_on c.from_residual.ensures.1 c.in_err-all.was) (file_refused c.requires c.schemas.ensures c.in_err-all.was)

pub returns : goal.returns
returns c = file_reads c.requires
    c.schemas.ensures c.in_ok-all.was
    c.put_row.ensures
