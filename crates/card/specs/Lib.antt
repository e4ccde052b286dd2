pub mod Doors
pub mod Reading
pub mod Snapshots
