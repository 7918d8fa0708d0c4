use Rattle.answer_rows.proofs.Reading.{keeping}
use Rattle.answer_rows.proofs.binary.Goals as goal

pub returns-then-length-gt-MOST : goal.returns-then-length-gt-MOST
returns-then-length-gt-MOST c = search keeping

pub returns : goal.returns
returns c = search keeping
