-- `lines::put_quoted_byte` meets its contract: a quote is put twice. Assumes nothing.
use Rattle.lines.proofs.Strings.{quote_put, other_put}
use Rattle.lines.proofs.put_quoted_byte.Goals as goal

pub returns-then-byte-eq39 : goal.returns-then-byte-eq39
returns-then-byte-eq39 c = search quote_put

pub returns : goal.returns
returns c = search other_put
