pub mod ChoiceLaws
pub mod TurnLaws
pub mod CountLaws
pub mod BucketLaws
pub mod SideLaws
pub mod EmptyLaws
pub mod JudgedLaws
pub mod LaidLedgerLaws
