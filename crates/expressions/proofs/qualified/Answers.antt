use Rattle.expressions.proofs.Operands.{item_row, item_none}
use Rattle.expressions.proofs.qualified.Goals as goal

pub returns-then-get_or-ne-IDENTIFIER : goal.returns-then-get_or-ne-IDENTIFIER
returns-then-get_or-ne-IDENTIFIER c = item_none c.requires.0 c.requires.1 c.get_or.result c.get_or.ensures c.if-get_or-ne-IDENTIFIER.true

pub returns : goal.returns
returns c = item_row c.requires.0 c.requires.1 c.get_or.result c.get_or.ensures c.if-get_or-ne-IDENTIFIER.false c.put_row.ensures
