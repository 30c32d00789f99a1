mod DescriptionLemmas
mod FindingLemmas
mod HashLemmas
mod LookLemmas
