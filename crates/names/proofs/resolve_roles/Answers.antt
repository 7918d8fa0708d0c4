-- `names::resolve_roles` meets its contract, by the laws of `Resolving`. Assumes nothing.
use Rattle.names.proofs.Resolving.{keys_fit, nodes_fit, sum_small, symbols_within, symbols_cut, unfit_room, file_resolved}
use mathlib.Core.Path.{refl}
use native.Mathlib.Omega.{arith}
use Rattle.names.proofs.resolve_roles.Goals as goal

pub returns-then-not-enough : goal.returns-then-not-enough
returns-then-not-enough c = unfit_room c.in_ok-prepare.ensures c.count_entries-counts.ensures refl c.prepare.auto.links c.room-enough.ensures c.if-not-enough.true

pub slice_bounds-bind_prepared-end : goal.slice_bounds-bind_prepared-end
slice_bounds-bind_prepared-end c = symbols_within c.in_ok-prepare.ensures c.count_entries-counts.ensures refl

pub slice_bounds-bind_prepared-end-2 : goal.slice_bounds-bind_prepared-end-2
slice_bounds-bind_prepared-end-2 c = symbols_cut c.in_ok-prepare.ensures c.count_entries-counts.ensures refl

pub overflow_add-counts : goal.overflow_add-counts
overflow_add-counts c = omega (arith, sum_small c.in_ok-prepare.ensures c.count_entries-counts.ensures refl)

pub bind_prepared-fault-requires : goal.bind_prepared-fault-requires
bind_prepared-fault-requires c = (
  c.room-enough.ensures.yes c.if-not-enough.false,
  keys_fit c.in_ok-prepare.ensures c.count_entries-counts.ensures refl,
  nodes_fit c.in_ok-prepare.ensures c.count_entries-counts.ensures refl,
)

pub returns : goal.returns
returns c = file_resolved c.in_ok-prepare.ensures c.count_entries-counts.ensures refl c.bind_prepared-fault.result c.bind_prepared-fault.ensures
    c.bind_prepared-fault.auto.bound c.finish.ensures
