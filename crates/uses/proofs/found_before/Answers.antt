-- `uses::found_before` meets its contract. Assumes nothing.
use mathlib.Core.Path.{◌≡◌, sym, ap, ◌∙◌}
use mathlib.Core.Logic.{⊎_elim}
use Prim.Native.Nat.{◌+◌, ◌-◌, ◌≤◌, ◌<◌}
use Rattle.relations.proofs.Select.{le_or}
use lib.ListN.{get_or}
use native.Mathlib.Omega.{arith}
use Rattle.scopes.proofs.NoneFrom.{none_yet, none_more}
use Rattle.uses.specs.Binding.{may_find}
use Rattle.uses.proofs.found_before.Goals as goal

pub loop-i-init : goal.loop-i-init
loop-i-init c = none_yet _

pub bounds-kinds-i : goal.bounds-kinds-i
bounds-kinds-i c = omega (arith, c.loop-i-test.true, c.loop-i.invariant.low, c.requires.0)

pub bounds-roles-i : goal.bounds-roles-i
bounds-roles-i c = omega (
  arith,
  c.loop-i-test.true,
  c.loop-i.invariant.low,
  c.requires.1,
)

pub returns-then-may_find : goal.returns-then-may_find
returns-then-may_find c = let e : c.loop-i.i - 1 + 1 ≡ c.loop-i.i = omega (arith, c.loop-i-test.true) in rw e c.loop-i.invariant

pub loop-i-preserved : goal.loop-i-preserved
loop-i-preserved c = none_more _ c.loop-i.invariant c.loop-i-test.true
    (ap (may_find (get_or c.args.kinds.now (c.loop-i.i - 1) 0) (get_or c.args.roles.now (c.loop-i.i - 1) 0)) (sym c.get_or.ensures) ∙ sym c.may_find.ensures ∙ c.if-may_find.false)

pub returns : goal.returns
returns c = let N = c.loop-i.invariant in
    let e : c.loop-i.i ≡ c.min.result = ⊎_elim (λ (h : c.args.end ≤ c.loop-i.i). omega (arith, c.loop-i-test.false, N.low))
    (λ (h : c.loop-i.i < c.args.end). omega (arith, c.loop-i-test.false, N.from h)) (le_or c.args.end c.loop-i.i) in rw e at N
