-- The test of a place is the condition of the reader.
use Rattle.parsing.proofs.Steps.{anywhere_there, anywhere_not}
use Rattle.clauses.proofs.schema_at.Goals as goal

pub returns-then-is_place : goal.returns-then-is_place
returns-then-is_place c = anywhere_there c.is_place.ensures c.if-is_place.true c.schema.ensures

pub returns-else-is_place : goal.returns-else-is_place
returns-else-is_place c = anywhere_not c.is_place.ensures c.if-is_place.false
