pub mod Printing
pub mod Profiles
pub mod Streams
