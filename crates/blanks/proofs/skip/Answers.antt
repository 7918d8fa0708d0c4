-- What is left to skip from here on is what is wanted, in enough turns (`Skipping`).
use mathlib.Core.Path.{refl, sym, ◌∙◌, ap}
use Prim.Native.Nat.{◌+◌}
use lib.ListN.{get_or}
use Rattle.express.specs.Tokens.Lexis.{in_line, pair}
use Rattle.express.proofs.Tokens.Places.{pair_in, run_low}
use Rattle.blanks.proofs.Skipping.{is_blank, is_control, no_space, left_first, left_past, left_space, left_line, left_stop, left_refused, left_remark, left_over, remark_passes}
use native.Mathlib.Omega.{arith}
use Rattle.std.proofs.lemmas.Result.{err_from_is_err_and}
use Rattle.blanks.proofs.skip.Goals as goal

pub loop-i-init : goal.loop-i-init
loop-i-init c = left_first _ _

pub loop-i-preserved-then-b-eq32 : goal.loop-i-preserved-then-b-eq32
loop-i-preserved-then-b-eq32 c = left_space _ _ _ c.loop-i-test.true c.loop-i.invariant _ refl (is_blank _ c.if-b-eq32.true)

pub returns-then-b-gt45 : goal.returns-then-b-gt45
returns-then-b-gt45 c = left_past _ _ _ c.loop-i-test.true c.loop-i.invariant c.if-b-gt45.true

pub loop-i-preserved-then-is_within : goal.loop-i-preserved-then-is_within
loop-i-preserved-then-is_within c = left_space _ _ _ c.loop-i-test.true c.loop-i.invariant _ refl (is_control _ (sym c.is_within.ensures ∙ c.if-is_within.true))

pub loop-i-smaller-then-is_pair : goal.loop-i-smaller-then-is_pair
loop-i-smaller-then-is_pair c = omega (arith, c.run_end-i.ensures, run_low in_line c.args.s.now (c.loop-i.i + 2))

pub loop-i-preserved-then-is_pair : goal.loop-i-preserved-then-is_pair
loop-i-preserved-then-is_pair c = left_line _ _ _ c.loop-i-test.true c.loop-i.invariant _ c.get_or-c.ensures
    (no_space _ c.if-b-eq32.false (sym c.is_within.ensures ∙ c.if-is_within.false)) (sym c.is_pair.ensures ∙ c.if-is_pair.true) _
    c.run_end-i.ensures (omega (arith, c.run_end-i.ensures, run_low in_line c.args.s.now (c.loop-i.i + 2)))

pub remark_end-requires : goal.remark_end-requires
remark_end-requires c = omega (
  arith,
  pair_in 40 42 (get_or c.args.s.now c.loop-i.i 0) c.args.s.now (c.loop-i.i + 1) refl
      (ap (pair 40 42 (get_or c.args.s.now c.loop-i.i 0)) (sym c.get_or-c.ensures) ∙ sym c.is_pair-else-is_pair.ensures ∙ c.if-is_pair-2.true),
)

pub returns-in_err-i : goal.returns-in_err-i
returns-in_err-i c =
    let p = err_from_is_err_and c.from_residual.result c.from_residual.ensures.1 in
    rw (p.1, p.2)
    (left_refused _ _ _ c.loop-i-test.true c.loop-i.invariant _ c.get_or-c.ensures
    (no_space _ c.if-b-eq32.false (sym c.is_within.ensures ∙ c.if-is_within.false)) (sym c.is_pair.ensures ∙ c.if-is_pair.false)
    (sym c.is_pair-else-is_pair.ensures ∙ c.if-is_pair-2.true) _ c.remark_end.ensures _ c.in_err-i.was)

pub loop-i-smaller : goal.loop-i-smaller
loop-i-smaller c = omega (arith, remark_passes _ _ _ _ c.remark_end.ensures c.in_ok-i.was)

pub loop-i-preserved : goal.loop-i-preserved
loop-i-preserved c = left_remark _ _ _ c.loop-i-test.true c.loop-i.invariant _ c.get_or-c.ensures
    (no_space _ c.if-b-eq32.false (sym c.is_within.ensures ∙ c.if-is_within.false)) (sym c.is_pair.ensures ∙ c.if-is_pair.false)
    (sym c.is_pair-else-is_pair.ensures ∙ c.if-is_pair-2.true) _ c.remark_end.ensures _ c.in_ok-i.was
    (remark_passes _ _ _ _ c.remark_end.ensures c.in_ok-i.was)

pub returns-else-is_pair-2 : goal.returns-else-is_pair-2
returns-else-is_pair-2 c = left_stop _ _ _ c.loop-i-test.true c.loop-i.invariant _ c.get_or-c.ensures
    (no_space _ c.if-b-eq32.false (sym c.is_within.ensures ∙ c.if-is_within.false)) (sym c.is_pair.ensures ∙ c.if-is_pair.false)
    (sym c.is_pair-else-is_pair.ensures ∙ c.if-is_pair-2.false)

pub returns : goal.returns
returns c = left_over _ _ _ c.loop-i-test.false c.loop-i.invariant
