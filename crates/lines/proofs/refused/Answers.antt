use Rattle.lines.proofs.Lines.{refused_printed}
use Rattle.lines.proofs.refused.Goals as goal

pub returns : goal.returns
returns c = refused_printed _ _
    c.put_text-a.ensures
    c.put_decimal-b.ensures
    c.put_text-c.ensures
    c.put_decimal-d.ensures
    c.end_line.ensures.0
    c.end_line.ensures.1
