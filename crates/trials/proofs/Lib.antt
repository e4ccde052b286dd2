pub mod JudgeTrialLaws
pub mod TrialNumberLaws
pub mod TrialLineLaws
pub mod PlayLaws
pub mod RoomLaws
