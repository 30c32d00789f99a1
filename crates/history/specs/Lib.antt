pub mod Tables
pub mod Holdings
pub mod Logs
pub mod Changes
pub mod Causes
pub mod Openings
pub mod Files
pub mod Laws
