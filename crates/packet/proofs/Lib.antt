pub mod PacketKeyLaws
pub mod JudgingLaws
