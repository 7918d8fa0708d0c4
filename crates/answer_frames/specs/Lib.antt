pub mod AnswerFrame
