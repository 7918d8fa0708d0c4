use Rattle.schemas.proofs.Passing.{Passing}
use Rattle.schemas.proofs.evaluate_schema.Given as goal

abbrev pub invariant-loop-declaration : goal.invariant-loop-declaration
invariant-loop-declaration l = Passing l.file.src.now l.file.starts.now l.file.lengths.now l.file.terminals.now l.file.kinds.now l.file.tokens.now l.file.sizes.now l.file.bindings.now l.declared l.part l.row_of l.lo l.hi
    l.at l.initial.answer_kinds l.initial.answer_numbers l.initial.answer_lengths l.initial.value_kinds l.initial.value_numbers l.initial.value_lengths l.initial.room l.answer_kinds l.answer_numbers l.answer_lengths l.value_kinds l.value_numbers l.value_lengths l.room
    l.declaration-index
