mod BodyLemmas
mod ChunkLemmas
mod FrontLemmas
mod HandingLemmas
mod KeepingLemmas
mod KnownLemmas
mod LengthLemmas
mod PrintedWalkLemmas
pub mod ReadsLemmas
mod ReplyLemmas
pub mod WalkLemmas
