-- `graph::valid` meets its contract. Assumes nothing.
use Rattle.graph.proofs.Test.{tells_no, tests}
use borrow.Author.Tests.{lt-leb}
use mathlib.Core.Path.{refl, ap}
use lib.ListN.{get_or}
use Prim.Native.Nat.{ℕ}
use native.Mathlib.Omega.{arith}
use Rattle.graph.proofs.valid.Goals.{then-n-gt-MOST-via-then-n-gt-MOST, then-n-gt-MOST-via-else-n-gt-MOST+then-not-rising}
use Rattle.graph.proofs.valid.Goals as goal

pub returns-in_default : goal.returns-in_default
returns-in_default c = tells_no refl (λ g. c.in_default.ensures (omega (arith, g.some)))

pub returns-then-n-gt-MOST : goal.returns-then-n-gt-MOST
returns-then-n-gt-MOST c = let n_is = c.in-Some.ensures.1 in
    tells_no refl (λ g. elim c.then-n-gt-MOST.branch [
      | then-n-gt-MOST-via-then-n-gt-MOST w ↦ omega (arith, g.small, w.if-n-gt-MOST.true)
      | then-n-gt-MOST-via-else-n-gt-MOST+then-not-rising w ↦ w.rising.ensures.no w.if-not-rising.true (λ v l. g.rise v (omega arith))
    ])

pub returns-then-end-to : goal.returns-then-end-to
returns-then-end-to c = tests (record {
  some = omega (arith, c.in-Some.ensures.0);
  count = c.in-Some.ensures.1;
  small = c.if-n-gt-MOST.false;
  rise = c.rising.ensures.yes c.if-not-rising.false;
  from_is = c.index.ensures;
  end_is = c.index-end.ensures;
  fits = c.if-end-to.true;
}) c.inside.ensures

pub returns-else-end-to : goal.returns-else-end-to
returns-else-end-to c = let q = ap (λ (k : ℕ). get_or c.args.first.now k 0) c.in-Some.ensures.1 in
    tells_no (lt-leb _ _ c.if-end-to.false) (λ g. omega (arith, g.end, c.index-end.ensures, c.if-end-to.false))
