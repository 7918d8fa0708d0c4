use Rattle.symbol_tables.specs.Table.{symbol_in}
use Rattle.inheritance.proofs.Storing.{Storing}
use Rattle.inheritance.proofs.store_meanings.Given as goal

abbrev pub invariant-loop-i : goal.invariant-loop-i
invariant-loop-i g l = Storing l.file.entries.kinds.now l.file.roles.now (λ n x. g.M.Meanings.tells l.meanings (symbol_in l.file.tokens.now l.file.symbols.now n) x) l.lo l.hi l.initial.bound l.bound l.i
