-- `literal_ends::string_end` meets its contract: of a token of few bytes the value is short, any other is counted. Assumes nothing.
use Rattle.literal_ends.proofs.Strings.{short_over, short_open, short_few, short_fits, short_large}
use Rattle.std.proofs.lemmas.Result.{err_from_is_err_and}
use Rattle.literal_ends.proofs.string_end.Goals as goal

pub returns-then-at-s : goal.returns-then-at-s
returns-then-at-s c = short_over _ _ c.if-at-s.true

pub returns-in_err-end : goal.returns-in_err-end
returns-in_err-end c =
    let p = err_from_is_err_and c.from_residual.result c.from_residual.ensures.1 in
    rw (p.1, p.2) (short_open _ _ _ c.quoted_end.ensures c.in_err-end.was)

pub returns-then-size : goal.returns-then-size
returns-then-size c = short_few _ _ _ c.quoted_end.ensures c.in_ok-end.was c.saturating_sub-size.ensures c.if-size.true

pub returns-then-string_length-gt-STRING_BYTES : goal.returns-then-string_length-gt-STRING_BYTES
returns-then-string_length-gt-STRING_BYTES c = short_large _ _ _ c.quoted_end.ensures c.in_ok-end.was c.saturating_sub-size.ensures c.string_length.ensures c.if-string_length-gt-STRING_BYTES.true

pub returns : goal.returns
returns c = short_fits _ _ _ c.quoted_end.ensures c.in_ok-end.was c.saturating_sub-size.ensures c.string_length.ensures c.if-string_length-gt-STRING_BYTES.false
