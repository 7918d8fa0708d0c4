-- `answer_stages::of_room` meets its contract: a room that is short of bytes that fit into 32 bits fits there too. Assumes nothing.
use Rattle.answer_stages.proofs.AnswerLaws.{room_suffices, room_short}
use Rattle.answer_stages.proofs.of_room.Goals as goal

pub returns-then-needed-room : goal.returns-then-needed-room
returns-then-needed-room c = room_suffices c.if-needed-room.true

pub returns : goal.returns
returns c = room_short c.if-needed-room.false c.number.ensures
