-- `row_inheritance::inherit_all` meets its contract. Assumes nothing.
use Rattle.inheritance.proofs.Doing.{inherits_none}
use Rattle.row_inheritance.proofs.Inheriting.{inherits_after}
use Rattle.row_inheritance.proofs.inherit_all.Goals as goal

pub returns-then-inheriting-eq0 : goal.returns-then-inheriting-eq0
returns-then-inheriting-eq0 c = inherits_none c.inheriting.ensures c.if-inheriting-eq0.true

pub returns-then-inherit_rows : goal.returns-then-inherit_rows
returns-then-inherit_rows c = c.inherit_rows.ensures.yes c.if-inherit_rows.true

pub returns : goal.returns
returns c = inherits_after c.inherit_rows.auto.table c.inherit_rows.auto.rows c.inherit_rows.auto.pairs (c.inherit_rows.ensures.no c.if-inherit_rows.false) c.inherit_all.ensures
