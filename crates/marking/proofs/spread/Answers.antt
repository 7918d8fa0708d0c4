-- `marking::spread` meets its contract. Assumes nothing.
use Rattle.graph.proofs.Store.{zeros, all_zeros}
use Rattle.graph.proofs.Mark.{markable_set, ones}
use mathlib.Core.Path.{refl}
use Rattle.marking.proofs.spread.Goals as goal

pub returns : goal.returns
returns c = (
  ones (markable_set c.requires _ _ c.clear.auto.column
      refl) (zeros c.args.mark.now _ c.clear.ensures) c.search.ensures,
  all_zeros c.search.new.queue c.clear-2.ensures c.search.auto.queue,
)
