use Rattle.string_bytes.proofs.Walking.{Going}
use Rattle.string_bytes.proofs.spell.Given as goal

abbrev pub invariant-loop-n : goal.invariant-loop-n
invariant-loop-n l = Going l.expression.src.now l.expression.starts.now l.expression.lengths.now l.expression.terminals.now l.expression.kinds.now l.expression.tokens.now
    l.expression.bindings.now l.known.file_kinds.now l.known.row_of.now l.known.first_row l.known.kinds.now l.known.numbers.now l.known.lengths.now l.known.room.now l.lo l.hi
    l.initial.out l.out l.at l.n
