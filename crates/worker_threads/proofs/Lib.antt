mod JobLemmas
mod PortionLemmas
