use Rattle.typing.proofs.Walking.{Going}
use Rattle.typing.proofs.type_expression.Given as goal

abbrev pub invariant-loop-n : goal.invariant-loop-n
invariant-loop-n l = Going l.terminals l.kinds l.tokens l.sizes l.bindings l.lo l.hi l.file_kinds l.declared l.initial.scratch l.scratch l.n
