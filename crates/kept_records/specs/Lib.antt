pub mod Keeping
pub mod Checksums
pub mod Memories
pub mod Messages
pub mod Unkept
pub mod Words
