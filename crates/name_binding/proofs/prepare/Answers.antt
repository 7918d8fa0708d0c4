-- `name_binding::prepare` meets its contract: the symbols are at the front of their column, and the dictionary is built over them. Assumes nothing.
use Rattle.name_binding.proofs.Preparing.{symbols_fit, symbols_long, short_prepared, file_prepared}
use Rattle.name_binding.proofs.prepare.Goals as goal

pub slice_bounds-prepare-end : goal.slice_bounds-prepare-end
slice_bounds-prepare-end c = symbols_fit c.intern-interned.ensures c.in-Ok.is c.intern-interned.auto.symbols

pub slice_bounds-prepare-end-in-Ok : goal.slice_bounds-prepare-end-in-Ok
slice_bounds-prepare-end-in-Ok c = symbols_long c.intern-interned.ensures c.in-Ok.is c.intern-interned.auto.symbols

pub returns-in-Ok : goal.returns-in-Ok
returns-in-Ok c = file_prepared c.intern-interned.ensures c.in-Ok.is c.intern-interned.auto.heads c.prepare.ensures

pub returns-in-Err : goal.returns-in-Err
returns-in-Err c = short_prepared c.intern-interned.ensures c.in-Err.is
