-- What is left to compare from here on decides what all of it does (`Parts`).
use mathlib.Core.Path.{sym, ◌∙◌}
use Rattle.terminals.proofs.Parts.{compare_more, compare_stop, compare_over}
use Rattle.terminals.proofs.Tables.matches.Goals as goal

pub returns-then-self-from : goal.returns-then-self-from
returns-then-self-from c = sym
    (compare_stop c.args.self.now.text c.args.s.now c.args.start c.args.n c.args.from c.loop-j.j c.requires.0 c.requires.1
    c.args.self.now.text_is c.args.fold c.loop-j-test.true _ c.letter.ensures c.if-self-from.true)
    ∙ c.loop-j.invariant

pub loop-j-preserved : goal.loop-j-preserved
loop-j-preserved c = sym
    (compare_more c.args.self.now.text c.args.s.now c.args.start c.args.n c.args.from c.loop-j.j c.requires.0 c.requires.1
    c.args.self.now.text_is c.args.fold c.loop-j-test.true _ c.letter.ensures c.if-self-from.false)
    ∙ c.loop-j.invariant

pub returns : goal.returns
returns c = sym
    (compare_over c.args.self.now.text c.args.s.now c.args.start c.args.n c.args.from c.loop-j.j c.requires.0
    c.requires.1 c.args.self.now.text_is c.args.fold c.loop-j-test.false)
    ∙ c.loop-j.invariant
