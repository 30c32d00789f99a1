mod AppEntryLemmas
mod DepthLemmas
mod DocumentLemmas
mod EditLemmas
mod EntryLemmas
mod FaultLemmas
mod KeyLemmas
pub mod LineLemmas
mod ListLemmas
mod MirrorLemmas
mod NameLemmas
mod OneTextLemmas
pub mod PathLemmas
mod PlainLemmas
mod ReadBackLemmas
mod ReaderLemmas
mod SizeLemmas
pub mod TableFaultLemmas
mod WritingLemmas
mod WrittenMirrorLemmas
