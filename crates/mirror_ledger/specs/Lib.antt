pub mod Asks
pub mod FaultStrings
pub mod Named
pub mod Order
pub mod Raising
pub mod Running
pub mod Tills
