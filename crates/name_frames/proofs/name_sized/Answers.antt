-- `name_frames::name_sized` meets its contract: small arrays where there are few tokens. Assumes nothing.
use Rattle.reading.specs.FileReading.{few_rows}
use Rattle.name_frames.proofs.Framing.{by_number}
use Rattle.name_frames.proofs.name_sized.Goals as goal

pub returns-then-file-le-FEW : goal.returns-then-file-le-FEW
returns-then-file-le-FEW g c = by_number few_rows c.if-file-le-FEW.true c.name_within.ensures
