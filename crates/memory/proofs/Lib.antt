pub mod CopyLaws
pub mod SliceLaws
pub mod ByteNumberLaws
pub mod RecordPartLaws
pub mod RefusalLaws
