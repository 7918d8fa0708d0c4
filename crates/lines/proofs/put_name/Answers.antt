-- `lines::put_name` meets its contract: a name is cut to the bytes as `take` and `drop` cut it (`part_is` of Pieces). Assumes nothing.
use Rattle.lines.proofs.Pieces.{put_part}
use Rattle.lines.proofs.put_name.Goals as goal

pub returns : goal.returns
returns c = search put_part
