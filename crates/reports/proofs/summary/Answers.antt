-- `reports::summary` meets its contract: counts of a file fit into 32 bits. Assumes nothing.
use Rattle.reports.proofs.Reporting.{done_report, refused_report}
use Rattle.reports.proofs.summary.Goals as goal

pub returns-in-Ok : goal.returns-in-Ok
returns-in-Ok c = done_report c.in-Ok.is c.number.ensures c.number-in-Ok.ensures c.number-in-Ok-2.ensures

pub returns-in-Err : goal.returns-in-Err
returns-in-Err c = refused_report c.in-Err.is
