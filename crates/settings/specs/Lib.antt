pub mod Checked
pub mod Areas
