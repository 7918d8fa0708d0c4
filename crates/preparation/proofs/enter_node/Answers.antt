-- `preparation::enter_node` meets its contract: the store of a node, by its sort. Assumes nothing.
use mathlib.Core.Path.{refl}
use Rattle.preparation.proofs.Filling.{keyed, entered_none, entered_one}
use Rattle.preparation.proofs.enter_node.Goals as goal

pub returns-then-sort-eq-NO_SORT : goal.returns-then-sort-eq-NO_SORT
returns-then-sort-eq-NO_SORT c = record { entered = entered_none _ c.if-sort-eq-NO_SORT.true; entered_2 = entered_none _ c.if-sort-eq-NO_SORT.true }

pub returns : goal.returns
returns c = record {
  entered = entered_one _ c.if-sort-eq-NO_SORT.false
      c.choose-at.ensures
      (keyed _ c.requires
      c.key-own.ensures
      c.scope.ensures) c.enter.ensures.0;
  entered_2 = entered_one _ c.if-sort-eq-NO_SORT.false
      c.choose-at.ensures refl c.enter.ensures.1;
}
