pub mod FileReading
