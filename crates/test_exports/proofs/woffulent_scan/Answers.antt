use Rattle.test_exports.proofs.Steps.{scans}
use Rattle.test_exports.proofs.woffulent_scan.Goals as goal

pub shape_of-kinds : goal.shape_of-kinds
shape_of-kinds c = c.scan-step.auto.kinds

pub shape_of-starts : goal.shape_of-starts
shape_of-starts c = c.scan-step.auto.starts

pub shape_of-lengths : goal.shape_of-lengths
shape_of-lengths c = c.scan-step.auto.lengths

pub returns : goal.returns
returns c = scans c.scan-step.ensures c.number_of.ensures c.reply_of.ensures
