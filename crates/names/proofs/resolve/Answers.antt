-- `names::resolve` meets its contract: the roles are narrowed, or there is no room. Assumes nothing.
use mathlib.Core.Path.{refl, ap}
use mathlib.Core.Bool.{not}
use Rattle.names.proofs.Resolving.{roles_fit, wide_resolved, narrow_resolved}
use Rattle.name_stages.proofs.Staged.{part_long}
use Rattle.names.proofs.resolve.Goals as goal

pub shape_of-bindings-then-not-narrow : goal.shape_of-bindings-then-not-narrow
shape_of-bindings-then-not-narrow c = refl

pub shape_of-roles-then-not-narrow : goal.shape_of-roles-then-not-narrow
shape_of-roles-then-not-narrow c = c.narrow.auto.bytes

pub returns-then-not-narrow : goal.returns-then-not-narrow
returns-then-not-narrow c = wide_resolved c.narrow.ensures (ap not c.if-not-narrow.true)

pub slice_bounds-resolve_roles-end : goal.slice_bounds-resolve_roles-end
slice_bounds-resolve_roles-end c = roles_fit c.args.roles.now c.narrow.ensures (ap not c.if-not-narrow.false) c.narrow.auto.bytes

pub slice_bounds-resolve_roles-end-2 : goal.slice_bounds-resolve_roles-end-2
slice_bounds-resolve_roles-end-2 c = part_long _ _ (roles_fit c.args.roles.now c.narrow.ensures (ap not c.if-not-narrow.false) c.narrow.auto.bytes)

pub shape_of-bindings : goal.shape_of-bindings
shape_of-bindings c = c.resolve_roles.auto.bindings

pub shape_of-roles : goal.shape_of-roles
shape_of-roles c = c.narrow.auto.bytes

pub shape_of-symbols : goal.shape_of-symbols
shape_of-symbols c = c.resolve_roles.auto.symbols

pub shape_of-keys : goal.shape_of-keys
shape_of-keys c = c.resolve_roles.auto.keys

pub shape_of-nodes : goal.shape_of-nodes
shape_of-nodes c = c.resolve_roles.auto.nodes

pub shape_of-heads : goal.shape_of-heads
shape_of-heads c = c.resolve_roles.auto.heads

pub shape_of-next : goal.shape_of-next
shape_of-next c = c.resolve_roles.auto.next

pub shape_of-first : goal.shape_of-first
shape_of-first c = c.resolve_roles.auto.first

pub shape_of-to : goal.shape_of-to
shape_of-to c = c.resolve_roles.auto.to

pub shape_of-types : goal.shape_of-types
shape_of-types c = c.resolve_roles.auto.types

pub shape_of-constants : goal.shape_of-constants
shape_of-constants c = c.resolve_roles.auto.constants

pub shape_of-scratch : goal.shape_of-scratch
shape_of-scratch c = c.resolve_roles.auto.scratch

pub returns : goal.returns
returns c = narrow_resolved c.narrow.ensures (ap not c.if-not-narrow.false) c.resolve_roles.ensures
