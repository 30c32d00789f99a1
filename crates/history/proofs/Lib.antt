mod Texts
mod StatementLemmas
mod RowLemmas
mod HistoryLemmas
mod LawLemmas
mod ChecksumLemmas
mod PutLemmas
