use Rattle.express.specs.Syntax.Grammar.{expression as expression'}
use Rattle.parsing.proofs.Limit.{end_within, whole_ready, judges}
use Rattle.parsing.proofs.Columns.{judged_few}
use Rattle.whole_expressions.proofs.whole.Goals as goal

pub returns : goal.returns
returns c = let ts = c.args.terminals.now in
    let within = end_within ts c.first_deep-deep.result
    c.end_of-end.result c.end_of-end.ensures in
    let read = c.expression_at-read.ensures.reads (whole_ready ts c.end_of-end.result within
    c.requires) in
    record {
      judges = judges ts expression' c.expression_at-read.result _ _ c.first_deep-deep.result
          c.end_of-end.result c.judged.result c.first_deep-deep.ensures
          c.end_of-end.ensures read c.judged.ensures;
      few = judged_few ts c.expression_at-read.result c.first_deep-deep.result
          c.end_of-end.result c.judged.result within c.judged.ensures read.ahead;
    }
