-- By its rule in Clauses, which takes each step's answer.
use Rattle.parsing.proofs.Laws.{handed_on}
use Rattle.parsing.proofs.Steps.{expect_ready}
use Rattle.clauses.proofs.Laws.{sound_ready}
use Rattle.clauses.proofs.Clauses.{assigned_name, assigned_colon, assigned_type, assigned_becomes, assigned_value, assigned_reads}
use Rattle.clauses.proofs.assigned.Goals as goal

pub returns-in_err-name : goal.returns-in_err-name
returns-in_err-name c = rw (handed_on c.from_residual.ensures.1 c.in_err-name.was) (assigned_name c.requires.0 c.args.label
    c.requires.1 c.expect.ensures c.in_err-name.was)

pub returns-in_err-colon : goal.returns-in_err-colon
returns-in_err-colon c = rw (handed_on c.from_residual-in_err-colon.ensures.1 c.in_err-colon.was) (assigned_colon c.requires.0
    c.args.label c.requires.1
    c.expect.ensures c.in_ok-name.was c.expect-2.ensures
    c.in_err-colon.was)

pub returns-in_err-kind : goal.returns-in_err-kind
returns-in_err-kind c = rw (handed_on c.from_residual-in_err-kind.ensures.1 c.in_err-kind.was) (let g = expect_ready c.expect-2.ensures (expect_ready
    c.expect.ensures
    c.requires.0
    c.in_ok-name.was)
    c.in_ok-colon.was in
    assigned_type c.requires.0
    c.args.label
    c.requires.1
    c.expect.ensures
    c.in_ok-name.was
    c.expect-2.ensures
    c.in_ok-colon.was g c.base.ensures c.in_err-kind.was)

pub returns-in_err-becomes : goal.returns-in_err-becomes
returns-in_err-becomes c = rw (handed_on c.from_residual-in_err-becomes.ensures.1 c.in_err-becomes.was) (let g = expect_ready c.expect-2.ensures (expect_ready
    c.expect.ensures
    c.requires.0 c.in_ok-name.was)
    c.in_ok-colon.was in
    assigned_becomes c.requires.0 c.args.label c.requires.1 c.expect.ensures c.in_ok-name.was
    c.expect-2.ensures
    c.in_ok-colon.was g
    c.base.ensures
    c.in_ok-kind.was c.expect-3.ensures c.in_err-becomes.was)

pub returns-in_err-given : goal.returns-in_err-given
returns-in_err-given c = rw (handed_on c.from_residual-in_err-given.ensures.1 c.in_err-given.was) (let g = expect_ready c.expect-2.ensures (expect_ready c.expect.ensures
    c.requires.0 c.in_ok-name.was)
    c.in_ok-colon.was in
    let h = expect_ready c.expect-3.ensures (sound_ready
    c.base.result
    c.base.ensures.sound
    c.in_ok-kind.was)
    c.in_ok-becomes.was in
    assigned_value c.requires.0
    c.args.label
    c.requires.1 c.expect.ensures
    c.in_ok-name.was c.expect-2.ensures c.in_ok-colon.was g c.base.ensures
    c.in_ok-kind.was
    c.expect-3.ensures
    c.in_ok-becomes.was (c.expression_at.ensures.reads h)
    c.in_err-given.was)

pub returns : goal.returns
returns c = let g = expect_ready c.expect-2.ensures (expect_ready
    c.expect.ensures
    c.requires.0
    c.in_ok-name.was)
    c.in_ok-colon.was in
    let h = expect_ready c.expect-3.ensures (sound_ready
    c.base.result c.base.ensures.sound c.in_ok-kind.was) c.in_ok-becomes.was in
    assigned_reads c.requires.0
    c.args.label
    c.requires.1
    c.expect.ensures
    c.in_ok-name.was
    c.expect-2.ensures c.in_ok-colon.was g
    c.base.ensures
    c.in_ok-kind.was
    c.expect-3.ensures
    c.in_ok-becomes.was
    (c.expression_at.ensures.reads h) c.in_ok-given.was
    c.closed.ensures
