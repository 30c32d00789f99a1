pub mod BeginLemmas
pub mod FieldLemmas
pub mod LineLemmas
pub mod LogLemmas
mod PageLemmas
pub mod PlaceLemmas
pub mod PortLemmas
mod RingLemmas
mod RoundLemmas
pub mod SeenLemmas
pub mod TrackLemmas
mod WholeLemmas
mod WrittenLemmas
