-- `symbols::fill` meets its contract: by the laws of `Filling`. Assumes nothing.
use Rattle.symbols.proofs.Interning.{filling_starts, ready_to_enter, filling_enters, filling_passes, filling_ends, filling_same}
use mathlib.Core.Path.{sym, ◌∙◌}
use borrow.Author.Tests.{eq-eqb, ne_eqb}
use native.Mathlib.Omega.{arith}
use Rattle.symbols.proofs.fill.Goals.{then-terminal-eq-IDENTIFIER, else-terminal-eq-IDENTIFIER}
use Rattle.symbols.proofs.fill.Goals as goal

pub loop-i-init : goal.loop-i-init
loop-i-init c = filling_starts _ _ _ _ c.requires

pub enter-requires : goal.enter-requires
enter-requires c = ready_to_enter _ _ _ _ c.loop-i.invariant c.loop-i-test.true

pub loop-i-preserved : goal.loop-i-preserved
loop-i-preserved c = let here = c.loop-i.invariant in
    let l = c.loop-i-test.true in
    let is = c.get_or-terminal.ensures in
    elim c.if-terminal-eq-IDENTIFIER.branch [
      | then-terminal-eq-IDENTIFIER w ↦ filling_same _ _ _ _ w.symbols-is w.heads-is w.next-is
          (filling_enters _ _ _ _ here l (eq-eqb _ _ (sym is ∙ w.if-terminal-eq-IDENTIFIER.true)) w.enter.ensures)
      | else-terminal-eq-IDENTIFIER w ↦ filling_same _ _ _ _ w.symbols-is w.heads-is w.next-is
          (filling_passes _ _ _ _ here l _ (ne_eqb _ _ (λ q. w.if-terminal-eq-IDENTIFIER.false (is ∙ q))) (w.number.ensures (omega (arith, here.small, l))))
    ]

pub shape_of-symbols : goal.shape_of-symbols
shape_of-symbols c = c.loop-i.invariant.symbols_long

pub shape_of-heads : goal.shape_of-heads
shape_of-heads c = c.loop-i.invariant.heads_long

pub shape_of-next : goal.shape_of-next
shape_of-next c = c.loop-i.invariant.next_long

pub returns : goal.returns
returns c = filling_ends _ _ _ _ c.loop-i.invariant c.loop-i-test.false
