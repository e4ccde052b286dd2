pub mod CallingLaws
