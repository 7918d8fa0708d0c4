-- By its rule in Clauses, which takes each step's answer.
use Rattle.parsing.proofs.Laws.{handed_on}
use Rattle.clauses.proofs.Clauses.{label_ready, labelled_refused, labelled_reads, plain_refused, plain_reads}
use Rattle.clauses.proofs.rule.Goals as goal

pub returns-in_err-named : goal.returns-in_err-named
returns-in_err-named c = rw (handed_on c.from_residual.ensures.1 c.in_err-named.was) (let g = label_ready c.requires
    c.is_labelled.result c.is_labelled.ensures
    c.if-is_labelled.true in
    labelled_refused c.requires
    c.is_labelled.result c.is_labelled.ensures
    c.if-is_labelled.true (c.expression_at.ensures.reads g) c.in_err-named.was)

pub returns-then-is_labelled : goal.returns-then-is_labelled
returns-then-is_labelled c = let g = label_ready c.requires
    c.is_labelled.result
    c.is_labelled.ensures
    c.if-is_labelled.true in
    labelled_reads c.requires
    c.is_labelled.result
    c.is_labelled.ensures
    c.if-is_labelled.true
    (c.expression_at.ensures.reads g) c.in_ok-named.was
    c.closed.ensures

pub returns-in_err-plain : goal.returns-in_err-plain
returns-in_err-plain c = rw (handed_on c.from_residual-in_err-plain.ensures.1 c.in_err-plain.was) (plain_refused c.requires
    c.is_labelled.result c.is_labelled.ensures
    c.if-is_labelled.false (c.expression_at-2.ensures.reads
    c.requires) c.in_err-plain.was)

pub returns : goal.returns
returns c = plain_reads c.requires
    c.is_labelled.result
    c.is_labelled.ensures
    c.if-is_labelled.false
    (c.expression_at-2.ensures.reads
    c.requires)
    c.in_ok-plain.was c.closed-2.ensures
