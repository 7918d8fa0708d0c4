use Rattle.express.specs.Syntax.Grammar.{file as file'}
use Rattle.parsing.proofs.Limit.{end_within, judges}
use Rattle.parsing.proofs.Columns.{judged_few}
use Rattle.declarations.proofs.whole.Goals as goal

pub returns : goal.returns
returns c = record {
  judges = judges c.args.terminals.now file'
      c.file-read.result _ _ c.first_deep-deep.result
      c.end_of-end.result c.judged.result c.first_deep-deep.ensures
      c.end_of-end.ensures c.file-read.ensures c.judged.ensures;
  few = judged_few
      c.args.terminals.now c.file-read.result
      c.first_deep-deep.result c.end_of-end.result c.judged.result
      (end_within c.args.terminals.now
      c.first_deep-deep.result c.end_of-end.result
      c.end_of-end.ensures) c.judged.ensures c.file-read.ensures.ahead;
}
