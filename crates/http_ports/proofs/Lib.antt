pub mod BookLemmas
pub mod KeptLemmas
pub mod PlaceLemmas
mod RoundLemmas
mod SlotLemmas
mod StepLemmas
mod SumLemmas
mod WorkLemmas
