use Rattle.schemas.proofs.Measuring.{Measuring}
use Rattle.schemas.proofs.measure_constants.Given as goal

abbrev pub invariant-loop-declaration : goal.invariant-loop-declaration
invariant-loop-declaration l = Measuring l.file.src.now l.file.starts.now l.file.lengths.now l.file.terminals.now l.file.kinds.now l.file.tokens.now l.file.sizes.now l.file.bindings.now l.declared l.order l.row_of
    l.initial.answer_kinds l.initial.answer_numbers l.initial.answer_lengths l.initial.value_kinds l.initial.value_numbers l.initial.value_lengths l.answer_kinds l.answer_numbers l.answer_lengths l.value_kinds l.value_numbers l.value_lengths l.declaration-index
