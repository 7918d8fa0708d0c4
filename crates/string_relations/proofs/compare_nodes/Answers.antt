-- `string_relations::compare_nodes` meets its contract: both are spelled in places of their own. Assumes nothing.
use mathlib.Core.Path.{refl}
use Rattle.string_relations.proofs.Relating.{orders_nodes}
use Rattle.string_relations.proofs.compare_nodes.Goals as goal

pub returns : goal.returns
returns c = orders_nodes c.spell_node-m.ensures refl c.spell_node-n.ensures refl c.compare.ensures
