mod DownloadLemmas
mod TransferLemmas
pub mod ReplyLemmas
