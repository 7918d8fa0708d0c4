use mathlib.Core.Path.{sym, ◌∙◌}
use borrow.Author.Tests.{not-true, not-false}
use Rattle.blanks.proofs.Turns.{run_more, run_stop, run_ends}
use Rattle.blanks.proofs.run_end.Goals as goal

pub returns-then-not-is_member : goal.returns-then-not-is_member
returns-then-not-is_member c = sym (run_stop _ _ _ c.loop-i-test.true (sym c.is_member.ensures ∙ not-true _ c.if-not-is_member.true-raw)) ∙ c.loop-i.invariant

pub loop-i-preserved : goal.loop-i-preserved
loop-i-preserved c = sym (run_more _ _ _ c.loop-i-test.true (sym c.is_member.ensures ∙ not-false _ c.if-not-is_member.false-raw)) ∙ c.loop-i.invariant

pub returns : goal.returns
returns c = run_ends _ _ _ _ c.loop-i-test.false c.loop-i.auto.i-end c.loop-i.invariant c.max.ensures
