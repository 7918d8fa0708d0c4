use Rattle.test_exports.proofs.Answers.{rank_related}
use Rattle.test_exports.proofs.logicals.woffulent_relate.Goals as goal

pub returns : goal.returns
returns c = rank_related c.from.ensures c.holds.ensures c.relation.ensures c.compare.ensures
    c.logical.ensures c.logical-2.ensures
