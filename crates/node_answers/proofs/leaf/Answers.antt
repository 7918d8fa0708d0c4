-- `node_answers::leaf` meets its contract: a literal, or none. Assumes nothing.
use Rattle.node_answers.proofs.Literals.{leaf_integer, leaf_binary, leaf_logical, leaf_string, leaf_other}
use Rattle.node_answers.proofs.leaf.Goals as goal

pub returns-then-kind-eq-INTEGER : goal.returns-then-kind-eq-INTEGER
returns-then-kind-eq-INTEGER c = leaf_integer c.if-kind-eq-INTEGER.true c.integer.ensures

pub returns-then-kind-eq-BINARY : goal.returns-then-kind-eq-BINARY
returns-then-kind-eq-BINARY c = leaf_binary c.if-kind-eq-BINARY.true c.binary.ensures

pub returns-then-kind-eq-LOGICAL : goal.returns-then-kind-eq-LOGICAL
returns-then-kind-eq-LOGICAL c = leaf_logical c.if-kind-eq-LOGICAL.true c.logical.ensures

pub returns-then-is_string : goal.returns-then-is_string
returns-then-is_string c = leaf_string c.is_string.ensures c.if-is_string.true c.string.ensures

pub returns : goal.returns
returns c = leaf_other c.is_string.ensures c.if-kind-eq-INTEGER.false c.if-kind-eq-BINARY.false c.if-kind-eq-LOGICAL.false c.if-is_string.false
