pub mod ByRows
pub mod Outside
pub mod Quotes
pub mod Sums
