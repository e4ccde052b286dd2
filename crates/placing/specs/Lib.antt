pub mod Ready
pub mod Worked
