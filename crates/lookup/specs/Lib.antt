pub mod Choosing
pub mod Scanning
pub mod Places
pub mod Answers
pub mod Bursts
pub mod Locating
pub mod Parts
