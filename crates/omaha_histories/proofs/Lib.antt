mod CallLemmas
mod CrashLemmas
mod FollowLemmas
mod LeadLemmas
pub mod LookLemmas
mod OneLemmas
mod ReturnLemmas
mod ServerLemmas
