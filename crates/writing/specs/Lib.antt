pub mod Laying
pub mod Counts
pub mod Buckets
pub mod Side
