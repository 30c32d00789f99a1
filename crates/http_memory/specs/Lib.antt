pub mod Calls
pub mod Failures
pub mod Peers
pub mod Seats
pub mod Shelves
