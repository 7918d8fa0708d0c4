-- `node_answers::string` meets its contract: as many bytes as fit. Assumes nothing.
use native.Mathlib.Omega.{arith}
use Rattle.node_answers.proofs.Literals.{string_long, string_short}
use Rattle.node_answers.specs.NodeAnswer.{part}
use Rattle.node_answers.proofs.string.Goals as goal

pub returns-then-n-gt-STRING_BYTES : goal.returns-then-n-gt-STRING_BYTES
returns-then-n-gt-STRING_BYTES c = let s = c.args in string_long (part s.src.now s.start s.length) c.string_length-n.ensures c.if-n-gt-STRING_BYTES.true

pub overflow_cast-result : goal.overflow_cast-result
overflow_cast-result c = omega arith

pub returns : goal.returns
returns c = let s = c.args in string_short (part s.src.now s.start s.length) c.string_length-n.ensures c.if-n-gt-STRING_BYTES.false
