use Rattle.clauses.proofs.Laws.{types_none, types_row}
use Rattle.clauses.proofs.base.Goals as goal

pub returns-then-kind-eq-NO_LABEL : goal.returns-then-kind-eq-NO_LABEL
returns-then-kind-eq-NO_LABEL c = types_none c.get_or.result c.type_label-kind.result c.get_or.ensures c.type_label-kind.ensures c.if-kind-eq-NO_LABEL.true

pub returns : goal.returns
returns c = types_row c.get_or.result c.type_label-kind.result
    c.get_or.ensures c.type_label-kind.ensures
    c.requires.0 c.if-kind-eq-NO_LABEL.false c.put_row.ensures
