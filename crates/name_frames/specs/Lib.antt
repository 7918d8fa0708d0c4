pub mod NameFrame
