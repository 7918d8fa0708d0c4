-- `cycles::cycle_in` meets its contract: a vertex on a cycle is one with an arc into its own group. Assumes nothing.
use Rattle.graph.proofs.Store.{all_zeros}
use Rattle.cycles.proofs.End.{found}
use Rattle.cycles.proofs.Use.{ready_after}
use mathlib.Core.Path.{◌∙◌}
use Rattle.cycles.proofs.cycle_in.Goals as goal

pub least-cycle-requires : goal.least-cycle-requires
least-cycle-requires c = ready_after c.requires c.search.auto.s

pub shape_of-s : goal.shape_of-s
shape_of-s c = c.clear.auto.column ∙ c.search.auto.s

pub returns : goal.returns
returns c = record {
  found = found c.requires.graph
      c.search.ensures _ c.least-cycle.ensures;
  zeros = all_zeros c.search.new.s c.clear.ensures
      c.search.auto.s;
}
