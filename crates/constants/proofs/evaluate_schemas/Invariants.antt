use lib.ListN.{length}
use Prim.Native.Nat.{◌-◌}
use Rattle.constants.proofs.Schemas.{Here}
use Rattle.constants.proofs.evaluate_schemas.Given as goal

abbrev pub invariant-loop-n : goal.invariant-loop-n
invariant-loop-n l = Here l.file.src.now l.file.starts.now l.file.lengths.now l.file.terminals.now l.file.kinds.now l.file.tokens.now l.file.sizes.now l.file.bindings.now l.declared l.order l.row_of l.initial.answer_kinds l.initial.answer_numbers
    l.initial.answer_lengths l.initial.value_kinds l.initial.value_numbers l.initial.value_lengths l.initial.room l.answer_kinds l.answer_numbers l.answer_lengths l.value_kinds l.value_numbers
    l.value_lengths l.room l.n l.lo l.at l.from

abbrev pub decreases-loop-n : goal.decreases-loop-n
decreases-loop-n l = length l.file.kinds.now - l.n
