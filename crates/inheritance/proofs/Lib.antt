pub mod Asking
pub mod TypeGraphs
pub mod Reaching
pub mod Queues
pub mod Storing
pub mod Doing
