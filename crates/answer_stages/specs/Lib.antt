pub mod KindStage
pub mod AnswerStage
