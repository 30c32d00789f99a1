pub mod FaultStrings
pub mod Forms
pub mod Headings
pub mod Keys
pub mod Laws
pub mod Reading
pub mod Strings
