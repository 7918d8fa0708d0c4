pub mod AnswerRow
pub mod Numbers
pub mod Tables
