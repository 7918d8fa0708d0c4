-- The end of the string from here on, just after a quote or not, is that of the whole (`Strings`).
use mathlib.Core.Path.{◌≡◌, sym, ap, ◌∙◌}
use lib.ListN.{length}
use Rattle.express.specs.Tokens.Lexis.{at}
use Rattle.literal_ends.proofs.Strings.{string_shut, string_doubled, string_quote, string_on, string_bad, string_end, string_open}
use native.Mathlib.Omega.{arith}
use Rattle.literal_ends.proofs.quoted_end.Goals.{then-quote+else-b-ne39, else-quote+then-b-eq39, else-quote+else-b-eq39+else-not-is_within}
use Rattle.literal_ends.proofs.quoted_end.Goals as goal

pub returns-then-b-ne39 : goal.returns-then-b-ne39
returns-then-b-ne39 c = sym (string_shut _ _ _ c.loop-i-test.true c.if-b-ne39.true) ∙ rw c.if-quote.true at c.loop-i.invariant

pub returns-then-not-is_within : goal.returns-then-not-is_within
returns-then-not-is_within c = sym (string_bad _ _ _ c.loop-i-test.true c.if-b-eq39.false (sym c.is_within.ensures ∙ c.if-not-is_within.true)) ∙ rw
    c.if-quote.false at c.loop-i.invariant

pub loop-i-preserved : goal.loop-i-preserved
loop-i-preserved c =
    elim c.if-quote.branch [
      | then-quote+else-b-ne39 w ↦
          rw w.quote-is (sym (string_doubled _ _ _ c.loop-i-test.true w.if-b-ne39.false) ∙ rw w.if-quote.true at c.loop-i.invariant)
      | else-quote+then-b-eq39 w ↦
          rw w.quote-is (sym (string_quote _ _ _ c.loop-i-test.true w.if-b-eq39.true) ∙ rw w.if-quote.false at c.loop-i.invariant)
      | else-quote+else-b-eq39+else-not-is_within w ↦
          rw (w.quote-is, w.if-quote.false)
          (sym (string_on _ _ _ c.loop-i-test.true w.if-b-eq39.false (sym w.is_within.ensures ∙ w.if-not-is_within.false)) ∙ rw w.if-quote.false at c.loop-i.invariant)
    ]

pub returns-then-quote-2 : goal.returns-then-quote-2
returns-then-quote-2 c =
    let e : c.loop-i.i ≡ length c.args.s.now = omega arith in
    ap at (sym e) ∙ sym (string_end _ _ _ c.loop-i-test.false) ∙ rw c.if-quote-2.true at c.loop-i.invariant

pub returns-else-quote-2 : goal.returns-else-quote-2
returns-else-quote-2 c = sym (string_open _ _ _ c.loop-i-test.false) ∙ rw c.if-quote-2.false at c.loop-i.invariant
