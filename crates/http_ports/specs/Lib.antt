pub mod Books
pub mod Loops
pub mod Ports
pub mod Rounds
pub mod Speech
pub mod Steps
pub mod Sums
pub mod Traffic
