pub mod Tabling
