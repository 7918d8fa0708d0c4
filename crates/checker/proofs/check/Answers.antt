-- `checker::check` meets its contract: all stages, and their end. Assumes nothing.
use mathlib.Core.Path.{◌∙◌}
use Rattle.checker.proofs.Concluding.{concluded}
use Rattle.checker.proofs.check.Goals as goal

pub shape_of-token_kinds : goal.shape_of-token_kinds
shape_of-token_kinds c = c.conclude.auto.token_kinds ∙ c.run-ran.auto.token_kinds

pub shape_of-token_starts : goal.shape_of-token_starts
shape_of-token_starts c = c.conclude.auto.token_starts ∙ c.run-ran.auto.token_starts

pub shape_of-token_lengths : goal.shape_of-token_lengths
shape_of-token_lengths c = c.conclude.auto.token_lengths ∙ c.run-ran.auto.token_lengths

pub shape_of-node_kinds : goal.shape_of-node_kinds
shape_of-node_kinds c = c.conclude.auto.node_kinds ∙ c.run-ran.auto.node_kinds

pub shape_of-node_tokens : goal.shape_of-node_tokens
shape_of-node_tokens c = c.conclude.auto.node_tokens ∙ c.run-ran.auto.node_tokens

pub shape_of-node_sizes : goal.shape_of-node_sizes
shape_of-node_sizes c = c.conclude.auto.node_sizes ∙ c.run-ran.auto.node_sizes

pub shape_of-node_bindings : goal.shape_of-node_bindings
shape_of-node_bindings c = c.conclude.auto.node_bindings ∙ c.run-ran.auto.node_bindings

pub shape_of-answer_kinds : goal.shape_of-answer_kinds
shape_of-answer_kinds c = c.conclude.auto.answer_kinds ∙ c.run-ran.auto.answer_kinds

pub shape_of-answer_numbers : goal.shape_of-answer_numbers
shape_of-answer_numbers c = c.conclude.auto.answer_numbers ∙ c.run-ran.auto.answer_numbers

pub shape_of-answer_lengths : goal.shape_of-answer_lengths
shape_of-answer_lengths c = c.conclude.auto.answer_lengths ∙ c.run-ran.auto.answer_lengths

pub shape_of-room : goal.shape_of-room
shape_of-room c = c.conclude.auto.room ∙ c.run-ran.auto.room

pub returns : goal.returns
returns c = concluded c.run-ran.ensures c.conclude.ensures
