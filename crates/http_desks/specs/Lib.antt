pub mod Begins
pub mod Pages
pub mod Calls
pub mod Downloads
pub mod Replies
pub mod Transfers
pub mod Uses
