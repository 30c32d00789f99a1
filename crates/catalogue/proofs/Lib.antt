pub mod Accepted
pub mod AcceptedLemmas
mod AdditionLemmas
pub mod AppLemmas
mod ContentLemmas
mod EditSpellingLemmas
pub mod FitLemmas
pub mod HashLemmas
mod HistoryLemmas
pub mod IndexLemmas
pub mod KeyLemmas
mod LastAppLemmas
mod LastPackageLemmas
mod MakingLemmas
pub mod OrderLemmas
mod OtherAppLemmas
mod OtherReleaseLemmas
pub mod PackageLemmas
pub mod PlaceLemmas
mod PrintingLemmas
mod ReadingBackLemmas
mod ReadingLemmas
mod ReleaseSettingLemmas
mod SettingLemmas
pub mod ShardLemmas
mod SpellingLemmas
pub mod ValidAppLemmas
pub mod ValidCohortLemmas
pub mod ValidDiffLemmas
mod ValidHistoryLemmas
pub mod ValidReleaseLemmas
pub mod ValidityLemmas
