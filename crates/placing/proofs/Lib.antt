pub mod CountingLaws
pub mod PartLaws
pub mod RecordCountLaws
pub mod WorkLaws
pub mod ReadyLaws
