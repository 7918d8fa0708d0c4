use Rattle.scan.proofs.Words.{table_at}
use native.Mathlib.Omega.{arith}
use Rattle.scan.proofs.Bytes.word_mark.Goals as goal

pub returns : goal.returns
returns c = table_at _ _ _ c.args.self.now.words_are c.byte_index.ensures.0 (omega (arith, c.ranges.b))
