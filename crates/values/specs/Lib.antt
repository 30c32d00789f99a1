pub mod Lists
pub mod Ordered
pub mod Reading
