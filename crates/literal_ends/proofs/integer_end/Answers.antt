use Rattle.literal_ends.proofs.Numbers.{integer_short, integer_fits, integer_large}
use Rattle.literal_ends.proofs.integer_end.Goals as goal

pub returns-then-digits-lt-INTEGER_DIGITS : goal.returns-then-digits-lt-INTEGER_DIGITS
returns-then-digits-lt-INTEGER_DIGITS c = integer_short _ _ _ c.saturating_sub-digits.ensures c.if-digits-lt-INTEGER_DIGITS.true

pub returns-then-integer-gt-INTEGER : goal.returns-then-integer-gt-INTEGER
returns-then-integer-gt-INTEGER c = integer_large _ _ _ _ c.saturating_sub-digits.ensures c.integer.ensures c.if-integer-gt-INTEGER.true

pub returns : goal.returns
returns c = integer_fits _ _ _ _ c.saturating_sub-digits.ensures c.integer.ensures c.if-integer-gt-INTEGER.false
