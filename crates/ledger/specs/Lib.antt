pub mod Edits
pub mod Spots
