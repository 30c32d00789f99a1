pub mod Best
pub mod Chains
pub mod Examples
pub mod Laws
pub mod Rows
pub mod Rules
pub mod Tables
