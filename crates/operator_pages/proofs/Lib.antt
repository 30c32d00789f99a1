mod PublishLemmas
mod SightLemmas
mod ZipLemmas
