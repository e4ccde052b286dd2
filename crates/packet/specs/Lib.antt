pub mod Judging
pub mod Versions
