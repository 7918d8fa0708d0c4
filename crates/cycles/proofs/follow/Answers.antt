-- `cycles::follow` meets its contract: what is read of the arc's target decides. Assumes nothing.
use Rattle.cycles.specs.State.{cell, state}
use Rattle.cycles.proofs.Following.{follows_join, follows_closed, follows_open}
use mathlib.Core.Path.{refl, sym, ◌∙◌}
use Prim.Native.Nat.{◌<◌, ◌≤◌}
use native.Mathlib.Omega.{arith}
use Rattle.cycles.proofs.follow.Goals as goal

pub returns-then-group-ne-OPEN : goal.returns-then-group-ne-OPEN
returns-then-group-ne-OPEN c = (
  refl,
  refl,
  follows_closed c.args.to.now (state
      c.args.s.now) c.args.groups
      c.args.e c.index-w.result 0
      c.index-w.ensures (λ z. c.if-group-eq-NEW.false (c.get-group.ensures ∙ z)) (λ z. c.if-group-ne-OPEN.true
      (c.get-group.ensures ∙ z)),
)

pub returns-then-get : goal.returns-then-get
returns-then-get c = let k : cell c.args.s.now 1
    c.index-w.result < cell
    c.args.s.now 4
    c.get-last.result = omega (arith, c.get.ensures, c.get-2.ensures, c.if-get.true) in
    follows_join c.args.to.now (state
    c.args.s.now)
    c.args.groups
    c.args.e
    c.index-w.result c.get-last.result
    c.index-w.ensures c.get-last.ensures (sym
    c.get-group.ensures ∙ c.if-group-ne-OPEN.false) k

pub returns : goal.returns
returns c = let k : cell c.args.s.now 4
    c.get-last.result ≤ cell
    c.args.s.now 1
    c.index-w.result = omega (
      arith,
      c.get.ensures,
      c.get-2.ensures,
      c.if-get.false,
    ) in (
      refl,
      refl,
      follows_open c.args.to.now (state
          c.args.s.now)
          c.args.groups
          c.args.e
          c.index-w.result c.get-last.result
          c.index-w.ensures c.get-last.ensures (sym
          c.get-group.ensures ∙ c.if-group-ne-OPEN.false) k,
    )
