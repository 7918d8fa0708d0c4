-- `cycles::search` meets its contract: by the laws of `Running`, one for each step. Assumes nothing.
use Rattle.cycles.proofs.Running.{running_start, countable, storable, running_end, running_on, less}
use mathlib.Core.Path.{sym, ◌∙◌}
use native.Mathlib.Omega.{arith}
use Rattle.cycles.proofs.search.Goals as goal

pub loop-then-init : goal.loop-then-init
loop-then-init c = running_start c.requires c.clear.ensures c.clear.auto.column

pub next-step-requires : goal.next-step-requires
next-step-requires c = c.loop-then.invariant.going

pub store-requires : goal.store-requires
store-requires c = storable c.loop-then.invariant.going (λ i. omega (
  arith,
  c.type_inv.first i,
)) c.next-step.result
    c.next-step.ensures

pub counted-requires : goal.counted-requires
counted-requires c = countable c.loop-then.invariant.going c.next-step.result
    c.next-step.ensures

pub shape_of-s-in_default : goal.shape_of-s-in_default
shape_of-s-in_default c = c.store.auto.s ∙ c.loop-then.invariant.long ∙
    c.clear.auto.column

pub returns-in_default : goal.returns-in_default
returns-in_default c = running_end c.loop-then.invariant.going
    c.store.new.s c.next-step.result
    c.next-step.ensures (sym c.counted.ensures ∙ c.in_default.is)
    c.store.ensures

pub loop-then-smaller : goal.loop-then-smaller
loop-then-smaller c = less c.loop-then.invariant
    c.store.new.s c.next-step.result
    c.next-step.ensures (sym c.counted.ensures ∙ c.in-Some.is)
    c.store.ensures (λ i. omega (
      arith,
      c.type_inv.first i,
    ))

pub loop-then-preserved : goal.loop-then-preserved
loop-then-preserved c = running_on c.loop-then.invariant
    c.store.new.s c.next-step.result
    c.next-step.ensures (sym c.counted.ensures ∙ c.in-Some.is)
    c.store.ensures
    c.store.auto.s
