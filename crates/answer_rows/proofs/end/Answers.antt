use Rattle.answer_rows.proofs.Reading.{end_read}
use Rattle.answer_rows.proofs.end.Goals as goal

pub returns : goal.returns
returns c = end_read _ _ _ c.try_from.ensures c.map_or.ensures
