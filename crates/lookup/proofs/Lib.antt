pub mod CounterLaws
pub mod ScanLaws
pub mod PlaceLaws
pub mod JudgeLaws
pub mod WithTableLaws
pub mod LocateLaws
pub mod FetchLaws
pub mod BurstLaws
