pub mod FileLaws
pub mod HeadLaws
pub mod FullPartLaws
pub mod SaveLaws
pub mod LoadLaws
