-- `symbols::intern` meets its contract: room, empty chains, and `fill`. Assumes nothing.
use mathlib.Core.Bool.{not}
use Rattle.symbols.proofs.Interning.{interns_short, interns_done, ready_to_fill}
use mathlib.Core.Path.{◌∙◌, sym, ap}
use Rattle.symbols.proofs.intern.Goals as goal

pub returns-then-not-room : goal.returns-then-not-room
returns-then-not-room c = interns_short c.room.ensures (ap not c.if-not-room.true)

pub fill-requires : goal.fill-requires
fill-requires c = ready_to_fill c.args.heads.now (sym c.room.ensures ∙ c.if-not-room.false) c.clear.ensures

pub shape_of-symbols : goal.shape_of-symbols
shape_of-symbols c = c.fill.auto.symbols

pub shape_of-heads : goal.shape_of-heads
shape_of-heads c = c.fill.auto.heads ∙
    c.clear.auto.column

pub shape_of-next : goal.shape_of-next
shape_of-next c = c.fill.auto.next

pub returns : goal.returns
returns c = interns_done c.room.ensures
    (ap not c.if-not-room.false)
    c.fill.ensures
