-- `reading::read_file` meets its contract: three stages in a line. Assumes nothing.
use mathlib.Core.Path.{refl, sym}
use lib.Seq.{length-take-le}
use Rattle.reading.proofs.Together.{kinds_fit, starts_fit, lengths_fit, read_together, node_room}
use Rattle.reading.proofs.read_file.Goals as goal

pub slice_bounds-read_sized-end : goal.slice_bounds-read_sized-end
slice_bounds-read_sized-end g c = kinds_fit c.scan_tokens-scanned.ensures _ c.count.ensures c.min-tokens.ensures c.scan_tokens-scanned.auto.kinds

pub slice_bounds-read_sized-end-2 : goal.slice_bounds-read_sized-end-2
slice_bounds-read_sized-end-2 g c = sym (length-take-le _ _ (kinds_fit c.scan_tokens-scanned.ensures _ c.count.ensures c.min-tokens.ensures c.scan_tokens-scanned.auto.kinds))

pub slice_bounds-read_sized-end-3 : goal.slice_bounds-read_sized-end-3
slice_bounds-read_sized-end-3 g c = starts_fit c.scan_tokens-scanned.ensures _ c.count.ensures
    c.min-tokens.ensures c.scan_tokens-scanned.auto.starts

pub slice_bounds-read_sized-end-4 : goal.slice_bounds-read_sized-end-4
slice_bounds-read_sized-end-4 g c = sym (length-take-le _ _ (starts_fit c.scan_tokens-scanned.ensures _ c.count.ensures c.min-tokens.ensures c.scan_tokens-scanned.auto.starts))

pub slice_bounds-read_sized-end-5 : goal.slice_bounds-read_sized-end-5
slice_bounds-read_sized-end-5 g c = lengths_fit c.scan_tokens-scanned.ensures _ c.count.ensures c.min-tokens.ensures c.scan_tokens-scanned.auto.lengths

pub slice_bounds-read_sized-end-6 : goal.slice_bounds-read_sized-end-6
slice_bounds-read_sized-end-6 g c = sym (length-take-le _ _ (lengths_fit c.scan_tokens-scanned.ensures _ c.count.ensures c.min-tokens.ensures c.scan_tokens-scanned.auto.lengths))

pub returns : goal.returns
returns g c = read_together c.scan_tokens-scanned.ensures c.count.ensures c.min-tokens.ensures refl c.read_sized-read.ensures c.count-2.ensures (node_room c.min.ensures
    c.min-2.ensures c.min-entries.ensures c.read_sized-read.auto.kinds c.read_sized-read.auto.tokens c.read_sized-read.auto.sizes c.read_sized-read.auto.roles) c.min-nodes.ensures c.fit_constants-fit.ensures
