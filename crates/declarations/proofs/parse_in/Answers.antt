-- A word's parts are its row's, and the words are the rows of the outcome.
use Rattle.parsing.proofs.Columns.{parses}
use Rattle.declarations.proofs.parse_in.Goals as goal

pub returns : goal.returns
returns c = parses c.requires.1
    c.whole-judgement.auto.rows
    c.whole-judgement.ensures
    c.lay_out.ensures
