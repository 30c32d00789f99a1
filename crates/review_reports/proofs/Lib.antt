mod ChangeLemmas
mod CopyLemmas
mod MemberLemmas
mod VersionLemmas
