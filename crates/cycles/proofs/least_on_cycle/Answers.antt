-- `cycles::least_on_cycle` meets its contract: the first entries of scratch are lent on. Assumes nothing.
use Rattle.cycles.proofs.Use.{ready, replied, used_scratch}
use lib.Seq.{length-take-le}
use mathlib.Core.Path.{refl, sym}
use Rattle.cycles.proofs.least_on_cycle.Goals as goal

pub returns-then-not-valid : goal.returns-then-not-valid
returns-then-not-valid c = record { no = λ g. c.valid.ensures.no c.if-not-valid.true g; kept = refl }

pub returns-then-scratch-needed : goal.returns-then-scratch-needed
returns-then-scratch-needed c = record { graph = c.valid.ensures.yes c.if-not-valid.false; needs = refl; short = c.if-scratch-needed.true; kept = refl }

pub slice_bounds-cycle_in-end : goal.slice_bounds-cycle_in-end
slice_bounds-cycle_in-end c = c.if-scratch-needed.false

pub slice_bounds-cycle_in-end-2 : goal.slice_bounds-cycle_in-end-2
slice_bounds-cycle_in-end-2 c = sym (length-take-le _ c.args.scratch.now c.if-scratch-needed.false)

pub cycle_in-requires : goal.cycle_in-requires
cycle_in-requires c = ready c.args.scratch.now (c.valid.ensures.yes c.if-not-valid.false) c.if-scratch-needed.false

pub returns : goal.returns
returns c = replied _ c.cycle_in.ensures.found (used_scratch (c.valid.ensures.yes c.if-not-valid.false) c.if-scratch-needed.false
    c.cycle_in.ensures.zeros)
