-- `lines::put_string` meets its contract: the string is cut to the room as `take` and `drop` cut it (`part_is` of Pieces). Assumes nothing.
use Rattle.lines.proofs.Strings.{put_literal}
use Rattle.lines.proofs.put_string.Goals as goal

pub returns : goal.returns
returns c = search put_literal
