pub mod Reading
pub mod Streams
pub mod Strings
pub mod Traces
pub mod Writing
