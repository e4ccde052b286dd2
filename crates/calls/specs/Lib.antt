pub mod Data
pub mod Calling
