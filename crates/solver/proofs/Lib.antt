mod FillLemmas
mod ListLemmas
mod SettledLemmas
mod TableLemmas
mod WriteLemmas
