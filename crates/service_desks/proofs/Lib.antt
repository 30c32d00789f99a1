mod BuiltinLemmas
pub mod DueLemmas
mod FollowLemmas
mod KeptLemmas
mod MirrorLemmas
mod PackageLemmas
mod RaiseLemmas
mod ServiceMirrorLemmas
mod TotalLemmas
