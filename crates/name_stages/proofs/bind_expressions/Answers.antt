-- `name_stages::bind_expressions` meets its contract: one stage after another, the table of items in a part of the scratch. Assumes nothing.
use mathlib.Core.Path.{◌∙◌}
use Rattle.name_stages.proofs.Staged.{part_long, joined_long, expressions_bound}
use native.Mathlib.Omega.{arith}
use Rattle.name_stages.proofs.bind_expressions.Goals as goal

pub slice_bounds-bind_uses-end-2 : goal.slice_bounds-bind_uses-end-2
slice_bounds-bind_uses-end-2 c = part_long _ _ (omega (arith, c.min-slots.ensures))

pub shape_of-bound : goal.shape_of-bound
shape_of-bound c = c.bind_uses-unbound.auto.bound

pub shape_of-first : goal.shape_of-first
shape_of-first c = c.bind_uses-unbound.auto.first

pub shape_of-to : goal.shape_of-to
shape_of-to c = c.bind_uses-unbound.auto.to

pub shape_of-order : goal.shape_of-order
shape_of-order c = c.arrange-cyclic.auto.order

pub shape_of-scratch : goal.shape_of-scratch
shape_of-scratch c = c.arrange-cyclic.auto.scratch ∙ joined_long c.min-slots.result c.args.scratch.now c.bind_uses-unbound.new.items
    (omega (
      arith,
      c.min-slots.ensures,
    )) c.bind_uses-unbound.auto.items

pub returns : goal.returns
returns c = expressions_bound c.bind_uses-unbound.new.items c.min-slots.ensures c.bind_uses-unbound.auto.items
    c.bind_uses-unbound.ensures c.arrange-cyclic.ensures c.or_later.ensures
