use Rattle.evaluate.proofs.Walking.{Going}
use Rattle.evaluate.proofs.evaluate_expression.Given as goal

abbrev pub invariant-loop-n : goal.invariant-loop-n
invariant-loop-n l = Going l.expression.src.now l.expression.starts.now l.expression.lengths.now l.expression.terminals.now l.expression.kinds.now l.expression.tokens.now l.expression.sizes.now l.expression.bindings.now l.lo l.hi
    l.known.file_kinds.now l.declared l.known.row_of.now l.known.first_row l.known.kinds.now l.known.numbers.now l.known.lengths.now l.known.room.now
    l.initial.value_kinds l.initial.value_numbers l.initial.value_lengths l.value_kinds l.value_numbers l.value_lengths l.n
