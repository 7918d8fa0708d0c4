pub mod Copying
pub mod Rooms
pub mod Finishing
