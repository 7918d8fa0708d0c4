-- `answer_frames::answer_sized` meets its contract: small arrays where there are few nodes. Assumes nothing.
use Rattle.reading.specs.FileReading.{few_rows}
use Rattle.answer_frames.proofs.Framing.{by_number}
use Rattle.answer_frames.proofs.answer_sized.Goals as goal

pub returns-then-file-le-FEW : goal.returns-then-file-le-FEW
returns-then-file-le-FEW g c = by_number few_rows c.if-file-le-FEW.true c.answer_within.ensures
