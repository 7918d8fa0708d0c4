use Rattle.test_exports.proofs.Steps.{parses}
use Rattle.test_exports.proofs.woffulent_parse.Goals as goal

pub shape_of-scratch : goal.shape_of-scratch
shape_of-scratch c = c.parse-parsed.auto.scratch

pub shape_of-kinds : goal.shape_of-kinds
shape_of-kinds c = c.parse-parsed.auto.kinds

pub shape_of-tokens : goal.shape_of-tokens
shape_of-tokens c = c.parse-parsed.auto.tokens

pub shape_of-sizes : goal.shape_of-sizes
shape_of-sizes c = c.parse-parsed.auto.sizes

pub shape_of-roles : goal.shape_of-roles
shape_of-roles c = c.parse-parsed.auto.roles

pub returns : goal.returns
returns c = parses c.parse-parsed.ensures c.parse_number.ensures c.parse_reply.ensures
