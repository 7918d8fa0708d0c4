-- `name_frames::name_framed` meets its contract: the arrays go by the number of tokens. Assumes nothing.
use Rattle.reading.specs.FileReading.{some_rows, many_rows}
use Rattle.name_frames.proofs.Framing.{by_number}
use Rattle.name_frames.proofs.name_framed.Goals as goal

pub returns-then-file-le-SOME : goal.returns-then-file-le-SOME
returns-then-file-le-SOME c = by_number some_rows c.if-file-le-SOME.true c.name_within.ensures

pub returns-then-file-le-MANY : goal.returns-then-file-le-MANY
returns-then-file-le-MANY c = by_number many_rows c.if-file-le-MANY.true c.name_within-then-file-le-MANY.ensures
