pub mod Nearest
pub mod NodeLaws
