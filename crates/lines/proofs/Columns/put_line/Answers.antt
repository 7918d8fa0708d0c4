-- `lines::Columns::put_line` meets its contract: its front, the answer and the line feed. Assumes nothing.
use Rattle.lines.proofs.Pieces.{then}
use Rattle.lines.proofs.Lines.{ended}
use Rattle.lines.proofs.Columns.put_line.Goals as goal

pub returns : goal.returns
returns c = ended (then c.put_title-a.ensures.put c.put_answer-b.ensures.put) c.end_line.ensures.0 c.end_line.ensures.1
