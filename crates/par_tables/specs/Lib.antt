pub mod Caches
pub mod Marks
pub mod Pieces
pub mod Places
pub mod Sources
pub mod Tables
pub mod Tracks
