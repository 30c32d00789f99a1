mod CommandLemmas
mod ErrorLemmas
mod OptionLemmas
