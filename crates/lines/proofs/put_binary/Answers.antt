use Rattle.lines.proofs.Numbers.{put_binary}
use Rattle.lines.proofs.put_binary.Goals as goal

pub returns : goal.returns
returns c = search put_binary
