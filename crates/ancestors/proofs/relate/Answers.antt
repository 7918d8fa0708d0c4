-- `ancestors::relate` meets its contract. Assumes nothing.
use Rattle.ancestors.proofs.Relating.{relates_not, relates}
use Rattle.ancestors.proofs.relate.Goals as goal

pub returns-then-width-gt-WIDEST : goal.returns-then-width-gt-WIDEST
returns-then-width-gt-WIDEST c = relates_not c.if-width-gt-WIDEST.true

pub returns : goal.returns
returns c = relates c.if-width-gt-WIDEST.false c.clear.ensures
    c.join_vertices.ensures c.vertices_closed.ensures
