mod BytesLemmas
mod ClosingLemmas
mod FieldLemmas
pub mod HeadLemmas
pub mod KnownLemmas
mod LengthLemmas
mod ReplyLemmas
mod TargetLemmas
