pub mod EditKindLaws
pub mod PlanLaws
pub mod WriteLaws
pub mod PerformLaws
