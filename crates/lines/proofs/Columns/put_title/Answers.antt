use Rattle.express.specs.Syntax.Tree.{schema_of}
use Rattle.lines.proofs.Lines.{titled}
use Rattle.lines.proofs.Columns.put_title.Goals as goal

pub returns : goal.returns
unfolding schema_of
returns c = search titled
