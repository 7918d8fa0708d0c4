use mathlib.Core.Path.{◌∙◌}
use borrow.Author.Tests.{ne_eqb}
use Rattle.parsing.proofs.Steps.{two_there, two_not}
use Rattle.expressions.proofs.is_qualified.Goals as goal

pub returns-then-get_or-eq-IDENTIFIER : goal.returns-then-get_or-eq-IDENTIFIER
returns-then-get_or-eq-IDENTIFIER c = two_there c.args.terminals.now c.args.p c.get_or.result
    c.get_or-then-get_or-eq-IDENTIFIER.result 1 7 c.get_or.ensures c.if-get_or-eq-IDENTIFIER.true c.get_or-then-get_or-eq-IDENTIFIER.ensures

pub returns-else-get_or-eq-IDENTIFIER : goal.returns-else-get_or-eq-IDENTIFIER
returns-else-get_or-eq-IDENTIFIER c = ne_eqb _ _ c.if-get_or-eq-IDENTIFIER.false ∙ two_not c.args.terminals.now c.args.p c.get_or.result 1 7 c.get_or.ensures c.if-get_or-eq-IDENTIFIER.false
