-- `node_answers::integer` meets its contract: the value as far as it fits. Assumes nothing.
use Rattle.node_answers.proofs.Literals.{integer_fits, integer_large, integer_small}
use Rattle.node_answers.specs.NodeAnswer.{part}
use Rattle.node_answers.proofs.integer.Goals as goal

pub returns-then-v-gt-INTEGER : goal.returns-then-v-gt-INTEGER
returns-then-v-gt-INTEGER c = integer_large (part c.args.src.now c.args.start c.args.length) c.integer-v.ensures c.if-v-gt-INTEGER.true

pub overflow_cast-result : goal.overflow_cast-result
overflow_cast-result c = integer_fits c.if-v-gt-INTEGER.false

pub returns : goal.returns
returns c = integer_small (part c.args.src.now c.args.start c.args.length) c.integer-v.ensures c.if-v-gt-INTEGER.false
