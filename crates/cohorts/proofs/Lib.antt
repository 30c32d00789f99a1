pub mod BucketLemmas
pub mod CohortTextLemmas
mod PinLemmas
mod TrackLemmas
