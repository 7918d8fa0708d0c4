-- `attributes::collect_queued` meets its contract. Assumes nothing.
use mathlib.Core.Path.{◌∙◌}
use Rattle.attributes.proofs.Collecting.{collecting_starts, collecting_ends, collecting_goes}
use Rattle.attributes.proofs.collect_queued.Goals as goal

pub loop-k-init : goal.loop-k-init
loop-k-init c = collecting_starts

pub loop-k-preserved : goal.loop-k-preserved
loop-k-preserved c = collecting_goes c.loop-k.invariant c.loop-k-test.true c.saturating_sub-base.ensures (c.index.ensures ∙ c.get_or.ensures) (c.index-lo.ensures ∙ c.get_or-in-loop-k.ensures)
    (c.index-hi.ensures ∙ c.get_or-in-loop-k-2.ensures) c.collect_entries.ensures
    c.collect_entries.auto.table

pub shape_of-table : goal.shape_of-table
shape_of-table c = c.loop-k.invariant.long

pub returns : goal.returns
returns c = collecting_ends c.loop-k.invariant c.loop-k-test.false
