-- `uses::decoded` meets its contract: one law for each code. Assumes nothing.
use mathlib.Core.Path.{refl}
use Rattle.uses.proofs.Uses.{decodes_nothing, decodes_several, decodes_node}
use Rattle.uses.proofs.decoded.Goals as goal

pub returns-then-code-eq0 : goal.returns-then-code-eq0
returns-then-code-eq0 c = decodes_nothing c.if-code-eq0.true

pub returns-then-code-eq-SEVERAL : goal.returns-then-code-eq-SEVERAL
returns-then-code-eq-SEVERAL c = decodes_several c.if-code-eq-SEVERAL.true

pub returns : goal.returns
returns c = decodes_node c.if-code-eq0.false c.if-code-eq-SEVERAL.false refl c.index.ensures
