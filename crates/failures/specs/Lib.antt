pub mod Explanations
pub mod Failures
pub mod HistoryFaults
pub mod RecordFaults
pub mod Rejections
