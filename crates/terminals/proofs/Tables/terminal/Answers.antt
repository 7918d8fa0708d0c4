use mathlib.Core.Path.{◌≡◌, sym, ◌∙◌, ap}
use mathlib.Core.List.{List}
use Prim.Native.Nat.{ℕ, ◌-◌, min}
use lib.ListN.{length, take, drop}
use Rattle.express.specs.Tokens.Terminal.{word_terminal, symbol_terminal}
use Rattle.terminals.proofs.Parts.{part_short}
use Rattle.terminals.proofs.Columns.{of_word, of_symbol, of_none, of_other, of_literal}
use Rattle.terminals.proofs.Tables.terminal.Goals as goal

-- as many bytes as the token has and the text still has
clipped : (s : List ℕ) (start size left n : ℕ) → left ≡ length s - start → n ≡ min size left → n ≡ min size (length s - start)
clipped s start size left n e h = h ∙ ap (min size) e

bytes_are : (s : List ℕ) (start size left n : ℕ) → left ≡ length s - start → n ≡ min size left
    → take n (drop start s) ≡ take size (drop start s)
bytes_are s start size left n e h = part_short s start size n (clipped s start size left n e h)

pub returns-then-kind-eq-WORD : goal.returns-then-kind-eq-WORD
returns-then-kind-eq-WORD c = c.word.ensures ∙ ap word_terminal (bytes_are c.args.s.now c.args.start c.args.size c.saturating_sub.result c.min-n.result c.saturating_sub.ensures c.min-n.ensures) ∙ sym (of_word _ (take c.args.size (drop c.args.start c.args.s.now)) c.if-kind-eq-WORD.true)

pub returns-then-kind-eq-SYMBOL : goal.returns-then-kind-eq-SYMBOL
returns-then-kind-eq-SYMBOL c = c.symbol.ensures ∙ ap symbol_terminal
    (bytes_are c.args.s.now c.args.start c.args.size c.saturating_sub.result c.min-n.result c.saturating_sub.ensures c.min-n.ensures) ∙ sym
    (of_symbol _ (take c.args.size (drop c.args.start c.args.s.now)) c.if-kind-eq-WORD.false c.if-kind-eq-SYMBOL.true)

pub returns-then-kind-lt-INTEGER : goal.returns-then-kind-lt-INTEGER
returns-then-kind-lt-INTEGER c = sym (of_none _ (take c.args.size (drop c.args.start c.args.s.now)) c.if-kind-eq-WORD.false c.if-kind-eq-SYMBOL.false c.if-kind-lt-INTEGER.true)

pub returns-then-kind-gt-BINARY : goal.returns-then-kind-gt-BINARY
returns-then-kind-gt-BINARY c = sym (of_other _ (take c.args.size (drop c.args.start c.args.s.now)) c.if-kind-eq-WORD.false c.if-kind-eq-SYMBOL.false c.if-kind-lt-INTEGER.false c.if-kind-gt-BINARY.true)

pub returns : goal.returns
returns c = sym (of_literal _ (take c.args.size (drop c.args.start c.args.s.now)) c.if-kind-eq-WORD.false c.if-kind-eq-SYMBOL.false c.if-kind-lt-INTEGER.false c.if-kind-gt-BINARY.false)
