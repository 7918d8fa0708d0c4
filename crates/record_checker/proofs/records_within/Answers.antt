-- `record_checker::records_within` meets its contract: the records are filled from columns of its own, which suffice for so few tokens. Assumes nothing.
use native.Mathlib.Omega.{arith}
use lib.ListN.{length-replicate}
use Rattle.record_demands.proofs.Theorem.{rows_within}
use Rattle.record_checker.proofs.records_within.Goals as goal

pub returns : goal.returns
returns g c = rows_within c.requires.many c.args.records.now c.fill.new.out (length-replicate _ _) (length-replicate _ _) (length-replicate _ _) c.check_rows-report.ensures c.fill.ensures
