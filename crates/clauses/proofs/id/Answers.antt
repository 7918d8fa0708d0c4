use Rattle.clauses.proofs.Laws.{leaves_there, leaves_not}
use Rattle.clauses.proofs.id.Goals as goal

pub returns-then-get_or-ne-IDENTIFIER : goal.returns-then-get_or-ne-IDENTIFIER
returns-then-get_or-ne-IDENTIFIER c = leaves_not c.get_or.result c.get_or.ensures c.if-get_or-ne-IDENTIFIER.true

pub returns : goal.returns
returns c = leaves_there c.get_or.result c.get_or.ensures c.requires.0 c.if-get_or-ne-IDENTIFIER.false c.put_row.ensures
