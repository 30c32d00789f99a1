pub mod Beginnings
pub mod Errors
pub mod Heard
pub mod Learnt
pub mod Publishing
pub mod Rule
pub mod Sights
