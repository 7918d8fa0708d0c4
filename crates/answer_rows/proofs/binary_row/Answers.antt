use Rattle.answer_rows.proofs.Reading.{binary_rows}
use Rattle.answer_rows.proofs.binary_row.Goals as goal

pub returns-then-b-gt-MOST : goal.returns-then-b-gt-MOST
returns-then-b-gt-MOST c = search binary_rows

pub overflow_cast-result : goal.overflow_cast-result
overflow_cast-result c = search binary_rows

pub returns : goal.returns
returns c = search binary_rows
