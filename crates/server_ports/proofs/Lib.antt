mod OutletLemmas
mod PageLemmas
