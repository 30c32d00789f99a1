mod HeardLemmas
mod LearntLemmas
mod ListLemmas
mod RuleLemmas
