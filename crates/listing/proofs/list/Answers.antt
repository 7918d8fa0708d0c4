-- `listing::list` is safe and ends: its arrays are as long as was asked, before and after the call. Assumes nothing.
use mathlib.Core.Path.{sym, ◌∙◌}
use Rattle.listing.proofs.Arrays.{counted, numbers_counted}
use Rattle.listing.proofs.list.Goals as goal

pub slice_bounds-check-end : goal.slice_bounds-check-end
slice_bounds-check-end g c = counted _

pub slice_bounds-check-end-2 : goal.slice_bounds-check-end-2
slice_bounds-check-end-2 g c = counted _

pub slice_bounds-check-end-3 : goal.slice_bounds-check-end-3
slice_bounds-check-end-3 g c = counted _

pub slice_bounds-check-end-4 : goal.slice_bounds-check-end-4
slice_bounds-check-end-4 g c = counted _

pub slice_bounds-check-end-5 : goal.slice_bounds-check-end-5
slice_bounds-check-end-5 g c = counted _

pub slice_bounds-check-end-6 : goal.slice_bounds-check-end-6
slice_bounds-check-end-6 g c = counted _

pub slice_bounds-check-end-7 : goal.slice_bounds-check-end-7
slice_bounds-check-end-7 g c = counted _

pub slice_bounds-check-end-8 : goal.slice_bounds-check-end-8
slice_bounds-check-end-8 g c = counted _

pub slice_bounds-check-end-9 : goal.slice_bounds-check-end-9
slice_bounds-check-end-9 g c = numbers_counted _

pub slice_bounds-check-end-10 : goal.slice_bounds-check-end-10
slice_bounds-check-end-10 g c = counted _

pub slice_bounds-check-end-11 : goal.slice_bounds-check-end-11
slice_bounds-check-end-11 g c = counted _

pub slice_bounds-print_columns-end : goal.slice_bounds-print_columns-end
slice_bounds-print_columns-end g c = counted _

pub slice_bounds-print_columns-end-2 : goal.slice_bounds-print_columns-end-2
slice_bounds-print_columns-end-2 g c = counted _ ∙ sym c.check-report.auto.token_starts

pub slice_bounds-print_columns-end-3 : goal.slice_bounds-print_columns-end-3
slice_bounds-print_columns-end-3 g c = counted _ ∙ sym c.check-report.auto.token_lengths

pub slice_bounds-print_columns-end-4 : goal.slice_bounds-print_columns-end-4
slice_bounds-print_columns-end-4 g c = counted _ ∙ sym c.check-report.auto.node_kinds

pub slice_bounds-print_columns-end-5 : goal.slice_bounds-print_columns-end-5
slice_bounds-print_columns-end-5 g c = counted _ ∙ sym c.check-report.auto.node_tokens

pub slice_bounds-print_columns-end-6 : goal.slice_bounds-print_columns-end-6
slice_bounds-print_columns-end-6 g c = counted _ ∙ sym c.check-report.auto.answer_kinds

pub slice_bounds-print_columns-end-7 : goal.slice_bounds-print_columns-end-7
slice_bounds-print_columns-end-7 g c = numbers_counted _ ∙ sym c.check-report.auto.answer_numbers

pub slice_bounds-print_columns-end-8 : goal.slice_bounds-print_columns-end-8
slice_bounds-print_columns-end-8 g c = counted _ ∙ sym c.check-report.auto.answer_lengths

pub slice_bounds-print_columns-end-9 : goal.slice_bounds-print_columns-end-9
slice_bounds-print_columns-end-9 g c = counted _ ∙ sym c.check-report.auto.room
