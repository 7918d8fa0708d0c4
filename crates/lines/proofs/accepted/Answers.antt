use Rattle.lines.proofs.Lines.{accepted_printed}
use Rattle.lines.proofs.accepted.Goals as goal

pub returns : goal.returns
returns c = search accepted_printed
