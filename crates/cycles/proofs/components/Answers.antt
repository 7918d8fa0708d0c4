-- `cycles::components` meets its contract: the first entries of the column and of scratch are lent on. Assumes nothing.
use Rattle.cycles.proofs.Use.{ready, used, groups_front}
use lib.Seq.{length-take-le}
use mathlib.Core.Path.{refl, sym, ◌∙◌}
use Rattle.cycles.proofs.components.Goals as goal

pub returns-then-not-valid : goal.returns-then-not-valid
returns-then-not-valid c = record { no = λ g. c.valid.ensures.no c.if-not-valid.true g; kept = refl }

pub returns-then-column-n : goal.returns-then-column-n
returns-then-column-n c = record { graph = c.valid.ensures.yes c.if-not-valid.false; needs = refl; short = c.if-column-n.true; kept = refl }

pub returns-then-scratch-needed : goal.returns-then-scratch-needed
returns-then-scratch-needed c = record { graph = c.valid.ensures.yes c.if-not-valid.false; needs = refl; short = c.if-scratch-needed.true; kept = refl }

pub slice_bounds-groups_in-end : goal.slice_bounds-groups_in-end
slice_bounds-groups_in-end c = c.if-column-n.false

pub slice_bounds-groups_in-end-2 : goal.slice_bounds-groups_in-end-2
slice_bounds-groups_in-end-2 c = sym (length-take-le _ c.args.column.now c.if-column-n.false)

pub slice_bounds-groups_in-end-3 : goal.slice_bounds-groups_in-end-3
slice_bounds-groups_in-end-3 c = c.if-scratch-needed.false

pub slice_bounds-groups_in-end-4 : goal.slice_bounds-groups_in-end-4
slice_bounds-groups_in-end-4 c = sym (length-take-le _ c.args.scratch.now c.if-scratch-needed.false)

pub groups_in-requires : goal.groups_in-requires
groups_in-requires c = (
  ready c.args.scratch.now (c.valid.ensures.yes c.if-not-valid.false) c.if-scratch-needed.false,
  length-take-le _ c.args.column.now
      c.if-column-n.false,
)

pub returns : goal.returns
returns c = record {
  used =
      used (c.valid.ensures.yes c.if-not-valid.false)
      c.if-scratch-needed.false c.groups_in.ensures.zeros
      c.args.column.now
      c.groups_in.new.group c.if-column-n.false
      c.groups_in.auto.group;
  groups =
      groups_front c.groups_in.new.group _ (c.groups_in.auto.group ∙
      length-take-le _
      c.args.column.now
      c.if-column-n.false) (c.valid.ensures.yes c.if-not-valid.false)
      c.groups_in.ensures.groups;
}
