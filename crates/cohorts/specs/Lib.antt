pub mod CohortTexts
pub mod Laws
pub mod Offers
pub mod Pins
pub mod Tracks
