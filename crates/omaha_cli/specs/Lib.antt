pub mod Doing
pub mod Running
pub mod Serving
pub mod Worlds
