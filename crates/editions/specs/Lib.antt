pub mod Drafts
pub mod Editions
pub mod FaultStrings
pub mod Marks
pub mod NextErrors
