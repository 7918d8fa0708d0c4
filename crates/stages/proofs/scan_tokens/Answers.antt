-- `stages::scan_tokens` meets its contract: the number beside a refusal fits into 32 bits. Assumes nothing.
use Rattle.stages.proofs.Laws.{scanned_done, scanned_refused}
use Rattle.stages.proofs.scan_tokens.Goals as goal

pub returns-in-Ok : goal.returns-in-Ok
returns-in-Ok c = scanned_done c.scan-step.ensures c.in-Ok.is

pub returns-in-Err : goal.returns-in-Err
returns-in-Err c = scanned_refused c.scan-step.ensures c.in-Err.is c.reply.ensures c.place.ensures c.number.ensures
