pub mod Laws
pub mod Settled
