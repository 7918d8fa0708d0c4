-- `constants::evaluate_constants` meets its contract: the rows in the order of the text, and the room. Assumes nothing.
use Rattle.constants.proofs.Written.{file_measured, file_evaluated}
use mathlib.Core.Path.{◌∙◌}
use Rattle.constants.proofs.evaluate_constants.Goals as goal

pub returns-then-needed-room : goal.returns-then-needed-room
returns-then-needed-room c = file_measured c.number_rows.ensures c.place_constants-needed.ensures c.if-needed-room.true

pub shape_of-row_of : goal.shape_of-row_of
shape_of-row_of c = c.number_rows.auto.row_of

pub shape_of-answer_kinds : goal.shape_of-answer_kinds
shape_of-answer_kinds c = c.evaluate_schemas.auto.answer_kinds ∙ c.place_constants-needed.auto.answer_kinds

pub shape_of-answer_numbers : goal.shape_of-answer_numbers
shape_of-answer_numbers c = c.evaluate_schemas.auto.answer_numbers ∙ c.place_constants-needed.auto.answer_numbers

pub returns : goal.returns
returns c = file_evaluated c.number_rows.ensures c.place_constants-needed.ensures c.evaluate_schemas.ensures c.if-needed-room.false c.clear.ensures
    c.place_constants-needed.auto.answer_kinds c.place_constants-needed.auto.answer_numbers c.place_constants-needed.auto.answer_lengths
    c.place_constants-needed.auto.value_kinds c.place_constants-needed.auto.value_numbers c.place_constants-needed.auto.value_lengths
    c.evaluate_schemas.auto.answer_kinds c.evaluate_schemas.auto.answer_numbers c.evaluate_schemas.auto.answer_lengths
