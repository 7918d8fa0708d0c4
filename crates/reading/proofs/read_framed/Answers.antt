-- `reading::read_framed` meets its contract: the array goes by the number of tokens. Assumes nothing.
use Rattle.reading.specs.FileReading.{some_rows, many_rows}
use Rattle.reading.proofs.Framing.{by_number}
use Rattle.reading.proofs.read_framed.Goals as goal

pub returns-then-token_kinds-le-SOME : goal.returns-then-token_kinds-le-SOME
returns-then-token_kinds-le-SOME c = by_number some_rows c.if-token_kinds-le-SOME.true c.read_within.ensures

pub returns-then-token_kinds-le-MANY : goal.returns-then-token_kinds-le-MANY
returns-then-token_kinds-le-MANY c = by_number many_rows c.if-token_kinds-le-MANY.true c.read_within-then-token_kinds-le-MANY.ensures
