use mathlib.Core.Path.{sym, ap, ◌∙◌}
use lib.ListN.{take, drop}
use Rattle.express.specs.Tokens.Terminal.{symbol_terminal}
use Rattle.terminals.proofs.Entries.{symbol_low, symbol_high}
use Rattle.terminals.proofs.Parts.{part_one}
use Rattle.terminals.proofs.Tables.symbol.Goals as goal

pub returns-then-n-eq1 : goal.returns-then-n-eq1
returns-then-n-eq1 c = let a = c.args in
    c.one_byte.ensures ∙ ap symbol_terminal (sym (part_one a.s.now a.start a.n c.requires c.if-n-eq1.true))

pub returns-then-code-lt-FIRST_WORD : goal.returns-then-code-lt-FIRST_WORD
returns-then-code-lt-FIRST_WORD c = symbol_low (take c.args.n (drop c.args.start c.args.s.now)) c.code_of-code.ensures c.if-code-lt-FIRST_WORD.true

pub returns : goal.returns
returns c = symbol_high (take c.args.n (drop c.args.start c.args.s.now)) c.code_of-code.ensures c.if-code-lt-FIRST_WORD.false
