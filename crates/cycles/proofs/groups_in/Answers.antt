-- `cycles::groups_in` meets its contract: a finished search has the components. Assumes nothing.
use Rattle.graph.proofs.Store.{all_zeros}
use Rattle.cycles.proofs.End.{groups_are}
use Rattle.cycles.proofs.Use.{ready_after, numbered}
use mathlib.Core.Path.{◌∙◌}
use Rattle.cycles.proofs.groups_in.Goals as goal

pub number_groups-requires : goal.number_groups-requires
number_groups-requires c = numbered c.args.group.now (ready_after
    c.requires.0 c.search.auto.s)
    c.search.ensures c.requires.1

pub shape_of-group : goal.shape_of-group
shape_of-group c = c.number_groups.auto.group

pub shape_of-s : goal.shape_of-s
shape_of-s c = c.clear.auto.column ∙ c.search.auto.s

pub returns : goal.returns
returns c = record {
  groups = groups_are
      c.requires.0.graph
      c.search.ensures
      c.number_groups.ensures;
  zeros = all_zeros
      c.search.new.s c.clear.ensures
      c.search.auto.s;
}
