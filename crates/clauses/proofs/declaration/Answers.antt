use Rattle.parsing.proofs.Terminals.{seen_one, seen_other}
use Rattle.clauses.proofs.Clauses.{declared_type, declared_entity}
use Rattle.clauses.proofs.declaration.Goals as goal

pub returns-then-get_or : goal.returns-then-get_or
returns-then-get_or c = declared_type (seen_one c.args.terminals.now
    c.args.from.token 140 c.get_or.ensures
    c.if-get_or.true) c.type_declaration.ensures

pub returns-else-get_or : goal.returns-else-get_or
returns-else-get_or c = declared_entity (seen_other c.args.terminals.now
    c.args.from.token 140 c.get_or.ensures
    c.if-get_or.false) c.entity.ensures
