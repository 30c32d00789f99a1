pub mod Chains
pub mod Edges
pub mod Examples
pub mod Laws
pub mod Net
pub mod Permitted
pub mod Places
pub mod Soundness
