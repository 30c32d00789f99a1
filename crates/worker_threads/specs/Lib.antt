pub mod Jobs
pub mod Portions
pub mod Started
