pub mod LineLaws
pub mod BlockLaws
