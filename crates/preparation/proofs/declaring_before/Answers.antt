-- `preparation::declaring_before` meets its contract. Assumes nothing.
use mathlib.Core.Path.{◌≡◌, sym, ◌∙◌}
use Prim.Native.Nat.{◌+◌, ◌-◌}
use native.Mathlib.Omega.{arith}
use Rattle.scopes.proofs.NoneFrom.{none_yet, none_more}
use Rattle.preparation.proofs.declaring_before.Goals as goal

pub loop-i-init : goal.loop-i-init
loop-i-init c = none_yet _

pub bounds-kinds-i : goal.bounds-kinds-i
bounds-kinds-i c = omega (arith, c.loop-i-test.true, c.loop-i.invariant.low, c.requires.0)

pub bounds-roles-i : goal.bounds-roles-i
bounds-roles-i c = omega (
  arith,
  c.loop-i-test.true,
  c.loop-i.invariant.low,
  c.requires.1,
)

pub returns-then-may_declare : goal.returns-then-may_declare
returns-then-may_declare c = let e : c.loop-i.i - 1 + 1 ≡ c.loop-i.i = omega (arith, c.loop-i-test.true) in rw e c.loop-i.invariant

pub loop-i-preserved : goal.loop-i-preserved
loop-i-preserved c = none_more _ c.loop-i.invariant c.loop-i-test.true (sym c.may_declare.ensures ∙ c.if-may_declare.false)

pub returns : goal.returns
returns c = let e : c.loop-i.i ≡ 0 = omega (arith, c.loop-i-test.false) in rw e at c.loop-i.invariant
