pub mod KindLaws
pub mod RoomLaws
pub mod AnswerLaws
