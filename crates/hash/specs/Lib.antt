pub mod Digits
pub mod Table
pub mod Widths
pub mod Numbering
pub mod Made
