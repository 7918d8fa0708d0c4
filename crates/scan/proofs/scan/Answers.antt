-- The answer of `fill`, and the room of the shortest column.
use mathlib.Core.Path.{◌≡◌, ◌∙◌, ap}
use lib.ListN.{length}
use mathlib.Core.List.{List}
use Prim.Native.Nat.{ℕ, min}
use Rattle.scan.proofs.Rows.{scan_refused, scan_short, scan_fits}
use Rattle.std.proofs.lemmas.Result.{err_from_is_err_and}
use Rattle.scan.proofs.scan.Goals as goal

-- the room is that of the shortest column
room_is : (kinds starts lengths : List ℕ) (shorter room : ℕ) → shorter ≡ min (length starts) (length lengths)
    → room ≡ min (length kinds) shorter
    → room ≡ min (length kinds) (min (length starts) (length lengths))
room_is kinds starts lengths shorter room e h = h ∙ ap (min (length kinds)) e

pub returns-in_err-n : goal.returns-in_err-n
returns-in_err-n c =
    let p = err_from_is_err_and c.from_residual.result c.from_residual.ensures.1 in
    rw (p.1, p.2) (scan_refused c.args.limit c.args.src.now c.fill.ensures c.in_err-n.was)

pub returns-then-n-room : goal.returns-then-n-room
returns-then-n-room c = scan_short c.args.limit c.args.src.now c.fill.ensures c.in_ok-n.was (room_is c.args.kinds.now c.args.starts.now c.args.lengths.now _ _ c.min.ensures c.min-room.ensures) c.if-n-room.true

pub returns : goal.returns
returns c = scan_fits c.args.limit c.args.src.now c.fill.ensures c.in_ok-n.was (room_is c.args.kinds.now c.args.starts.now c.args.lengths.now _ _ c.min.ensures c.min-room.ensures) c.if-n-room.false
