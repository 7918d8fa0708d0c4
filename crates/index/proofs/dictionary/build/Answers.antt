-- `index::dictionary::build` meets its contract: by the laws of `Building`: the chains of the entries from i on. Assumes nothing.
use Rattle.index.proofs.Entries.{building_starts, building_passes, building_enters, built, builds_short, builds_done}
use mathlib.Core.Path.{◌∙◌, sym}
use borrow.Author.Tests.{not-false}
use native.Mathlib.Omega.{arith}
use Rattle.index.proofs.dictionary.build.Goals as goal

pub returns-then-not-scratch : goal.returns-then-not-scratch
returns-then-not-scratch c = builds_short c.if-not-scratch.true-raw c.scratch.ensures

pub loop-i-init : goal.loop-i-init
loop-i-init c = building_starts c.args.heads.now (sym
    c.scratch.ensures ∙ not-false _ c.if-not-scratch.false-raw)
    c.clear.ensures

pub loop-i-preserved-then-key-ne0 : goal.loop-i-preserved-then-key-ne0
loop-i-preserved-then-key-ne0 c = building_enters c.loop-i.invariant c.loop-i-test.true _ _
    (omega arith) c.bucket-b.ensures (c.number.ensures (omega (
      arith,
      c.loop-i.invariant.within,
      c.loop-i.invariant.small,
    )))

pub loop-i-preserved : goal.loop-i-preserved
loop-i-preserved c = building_passes c.loop-i.invariant c.loop-i-test.true c.if-key-ne0.false

pub shape_of-heads : goal.shape_of-heads
shape_of-heads c = c.loop-i.invariant.heads_long ∙ c.clear.auto.column

pub shape_of-next : goal.shape_of-next
shape_of-next c = c.loop-i.invariant.next_long

pub returns : goal.returns
returns c = builds_done c.if-not-scratch.false-raw c.scratch.ensures
    (built c.loop-i.invariant c.loop-i-test.false) c.loop-i.invariant.rest
