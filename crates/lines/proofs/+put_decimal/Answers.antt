-- `lines::put_decimal` meets its contract: the digits of a number are those of its tenth, and its last one (`decimal_more` of Numbers). Assumes nothing.
use mathlib.Core.Path.{◌∙◌}
use native.Mathlib.Omega.{arith}
use Rattle.lines.proofs.Pieces.{kept}
use Rattle.lines.proofs.Numbers.{put_digit, put_more}
use Rattle.lines.proofs.+put_decimal.Goals as goal

pub digit-requires : goal.digit-requires
digit-requires t c = omega arith

pub put_byte-requires : goal.put_byte-requires
put_byte-requires t c = omega arith

pub shape_of-out-then-n-lt10 : goal.shape_of-out-then-n-lt10
shape_of-out-then-n-lt10 t c = kept c.put_byte.ensures.put

pub returns-then-n-lt10 : goal.returns-then-n-lt10
returns-then-n-lt10 t c = search put_digit

pub put_decimal-next-requires : goal.put_decimal-next-requires
put_decimal-next-requires t c = (omega (arith, c.requires), omega arith)

pub digit-requires-2 : goal.digit-requires-2
digit-requires-2 t c = omega arith

pub put_byte-requires-2 : goal.put_byte-requires-2
put_byte-requires-2 t c = omega arith

pub shape_of-out : goal.shape_of-out
shape_of-out t c = kept c.put_byte-2.ensures.put ∙ kept c.put_decimal-next.ensures.put

pub returns : goal.returns
returns t c = search put_more
