use Rattle.bits.proofs.Rows.{join_fits, join_row, join_ended}
use Rattle.bits.proofs.join_row.Goals as goal

pub overflow_cast-number : goal.overflow_cast-number
overflow_cast-number c = join_fits c.join.ensures c.in-Ok.is

pub returns-in-Ok : goal.returns-in-Ok
returns-in-Ok c = join_row c.join.ensures c.in-Ok.is

pub returns-in-Err : goal.returns-in-Err
returns-in-Err c = join_ended c.join.ensures c.from.ensures c.in-Err.is
