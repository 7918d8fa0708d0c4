use Rattle.parsing.proofs.Steps.{combined_one, combined_two}
use Rattle.expressions.proofs.combined.Goals as goal

pub returns-then-q-from : goal.returns-then-q-from
returns-then-q-from c = combined_one c.if-q-from.true

pub returns : goal.returns
returns c = combined_two c.if-q-from.false c.put_row.ensures
