mod MarkLemmas
mod TableLemmas
