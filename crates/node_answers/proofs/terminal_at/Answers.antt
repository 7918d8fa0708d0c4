-- `node_answers::terminal_at` meets its contract: what its calls say. Assumes nothing.
use Rattle.node_answers.proofs.terminal_at.Goals as goal

pub returns : goal.returns
returns c = cc
