-- `stages::read_nodes` meets its contract: the terminals of all tokens are parsed. Assumes nothing.
use mathlib.Core.Path.{sym}
use native.Mathlib.Omega.{arith}
use lib.Seq.{length-take-le}
use Rattle.stages.proofs.Nodes.{nodes_read}
use Rattle.stages.proofs.read_nodes.Goals as goal

pub slice_bounds-parse_tokens-end-2 : goal.slice_bounds-parse_tokens-end-2
slice_bounds-parse_tokens-end-2 c = sym (length-take-le c.min-n.result _ (omega (arith, c.min-n.ensures)))

pub returns : goal.returns
returns c = nodes_read _ _ _ _ _ _ _ _ _ _ _ _ _ _ _ _ _ _ _ c.terminals.ensures c.min-n.ensures c.terminals.auto.out c.parse_tokens.ensures
