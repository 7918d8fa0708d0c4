use mathlib.Core.Path.{sym, ◌∙◌}
use Rattle.terminals.proofs.Parts.{letter_over, letter_plain, letter_upper, upper_is}
use Rattle.terminals.proofs.letter.Goals as goal

pub returns-then-i-n : goal.returns-then-i-n
returns-then-i-n c = sym (letter_over c.args.s.now c.args.start c.args.n c.requires c.args.fold c.args.i c.if-i-n.true)

pub returns-then-fold : goal.returns-then-fold
returns-then-fold c = rw c.if-fold.true
    (c.to_ascii_uppercase.ensures.value ∙ upper_is _ ∙ sym (letter_upper c.args.s.now c.args.start c.args.n c.requires c.args.i c.if-i-n.false))

pub returns-else-fold : goal.returns-else-fold
returns-else-fold c = rw c.if-fold.false (sym (letter_plain c.args.s.now c.args.start c.args.n c.requires c.args.i c.if-i-n.false))
