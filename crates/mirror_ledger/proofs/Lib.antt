mod NamedLemmas
mod PairLemmas
mod RaisingLemmas
mod RejectedLemmas
mod TillLemmas
