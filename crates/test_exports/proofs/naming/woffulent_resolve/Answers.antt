-- `test_exports::naming::woffulent_resolve` meets its contract: it hands on the resolution in numbers. Assumes nothing.
use Rattle.test_exports.proofs.naming.woffulent_resolve.Goals as goal

pub shape_of-bindings : goal.shape_of-bindings
shape_of-bindings c = c.resolve-resolution.auto.bindings

pub shape_of-roles : goal.shape_of-roles
shape_of-roles c = c.resolve-resolution.auto.roles

pub shape_of-symbols : goal.shape_of-symbols
shape_of-symbols c = c.resolve-resolution.auto.symbols

pub shape_of-keys : goal.shape_of-keys
shape_of-keys c = c.resolve-resolution.auto.keys

pub shape_of-nodes : goal.shape_of-nodes
shape_of-nodes c = c.resolve-resolution.auto.nodes

pub shape_of-heads : goal.shape_of-heads
shape_of-heads c = c.resolve-resolution.auto.heads

pub shape_of-next : goal.shape_of-next
shape_of-next c = c.resolve-resolution.auto.next

pub shape_of-first : goal.shape_of-first
shape_of-first c = c.resolve-resolution.auto.first

pub shape_of-to : goal.shape_of-to
shape_of-to c = c.resolve-resolution.auto.to

pub shape_of-types : goal.shape_of-types
shape_of-types c = c.resolve-resolution.auto.types

pub shape_of-constants : goal.shape_of-constants
shape_of-constants c = c.resolve-resolution.auto.constants

pub shape_of-scratch : goal.shape_of-scratch
shape_of-scratch c = c.resolve-resolution.auto.scratch

pub returns : goal.returns
returns c = record {
  answer = c.resolve-resolution.result;
  promise = c.resolve-resolution.ensures;
  encodes = c.resolution_reply.ensures;
  number_is
      = c.resolution_place.ensures;
}
