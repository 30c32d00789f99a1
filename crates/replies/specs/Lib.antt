pub mod Clients
pub mod Pinned
pub mod Timestamps
pub mod Plans
pub mod Replies
pub mod Asking
pub mod Answering
pub mod Counting
