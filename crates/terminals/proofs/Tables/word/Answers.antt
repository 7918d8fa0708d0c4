use lib.ListN.{take, drop}
use Rattle.terminals.proofs.Entries.{word_low, word_high}
use Rattle.terminals.proofs.Tables.word.Goals as goal

pub returns-then-not-may_be_reserved : goal.returns-then-not-may_be_reserved
returns-then-not-may_be_reserved c = c.may_be_reserved.ensures c.if-not-may_be_reserved.true

pub returns-then-code-lt-FIRST_WORD : goal.returns-then-code-lt-FIRST_WORD
returns-then-code-lt-FIRST_WORD c = word_low (take c.args.n (drop c.args.start c.args.s.now)) c.code_of-code.ensures c.if-code-lt-FIRST_WORD.true

pub returns : goal.returns
returns c = word_high (take c.args.n (drop c.args.start c.args.s.now)) c.code_of-code.ensures c.if-code-lt-FIRST_WORD.false
