-- `test_exports::kinds::woffulent_evaluate_constants` meets its contract: it hands on the call. Assumes nothing.
use Rattle.test_exports.proofs.kinds.woffulent_evaluate_constants.Goals as goal

pub shape_of-row_of : goal.shape_of-row_of
shape_of-row_of c = c.evaluate_constants.auto.row_of

pub shape_of-answer_kinds : goal.shape_of-answer_kinds
shape_of-answer_kinds c = c.evaluate_constants.auto.answer_kinds

pub shape_of-answer_numbers : goal.shape_of-answer_numbers
shape_of-answer_numbers c = c.evaluate_constants.auto.answer_numbers

pub shape_of-answer_lengths : goal.shape_of-answer_lengths
shape_of-answer_lengths c = c.evaluate_constants.auto.answer_lengths

pub shape_of-value_kinds : goal.shape_of-value_kinds
shape_of-value_kinds c = c.evaluate_constants.auto.value_kinds

pub shape_of-value_numbers : goal.shape_of-value_numbers
shape_of-value_numbers c = c.evaluate_constants.auto.value_numbers

pub shape_of-value_lengths : goal.shape_of-value_lengths
shape_of-value_lengths c = c.evaluate_constants.auto.value_lengths

pub shape_of-room : goal.shape_of-room
shape_of-room c = c.evaluate_constants.auto.room

pub returns : goal.returns
returns c = c.evaluate_constants.ensures
