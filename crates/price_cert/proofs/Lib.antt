mod BestLemmas
mod BetterLemmas
mod InductionLemmas
mod LeastLemmas
mod OpeningLemmas
mod PairLemmas
pub mod PassLemmas
mod RuleLemmas
mod SmallLemmas
mod StepLemmas
mod UniqueLemmas
