use Rattle.test_exports.proofs.binaries.woffulent_join.Goals as goal

pub returns : goal.returns
returns c = c.join_row.ensures
