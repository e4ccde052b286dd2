pub mod Asking
pub mod Printing
