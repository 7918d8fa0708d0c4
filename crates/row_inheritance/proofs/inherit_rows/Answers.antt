-- `row_inheritance::inherit_rows` meets its contract. Assumes nothing.
use Rattle.row_inheritance.proofs.Inheriting.{by_none}
use Rattle.row_inheritance.proofs.inherit_rows.Goals as goal

pub inherit_fitting-requires : goal.inherit_fitting-requires
inherit_fitting-requires c = c.rows_fit.ensures.yes c.if-rows_fit.true

pub returns-then-rows_fit : goal.returns-then-rows_fit
returns-then-rows_fit c = c.inherit_fitting.ensures

pub returns : goal.returns
returns c = by_none
