pub mod Data
pub mod Playing
pub mod Telling
