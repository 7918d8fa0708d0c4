-- `scopes::declaration` meets its contract: its entry, and the one before it, stand in the columns. Assumes nothing.
use mathlib.Core.Path.{refl}
use Rattle.scopes.proofs.Ranges.{declaration_first, declaration_later}
use Rattle.scopes.proofs.declaration.Goals as goal

pub returns-then-vertex-eq0 : goal.returns-then-vertex-eq0
returns-then-vertex-eq0 c = declaration_first c.get_or.ensures refl c.get_or-2.ensures c.index-node.ensures c.if-vertex-eq0.true refl

pub returns : goal.returns
returns c = declaration_later
    c.get_or.ensures
    refl
    c.get_or-2.ensures
    c.index-node.ensures
    c.if-vertex-eq0.false
    c.get_or-3.ensures
    c.index-from.ensures
    refl
