pub mod WindowAreaLaws
