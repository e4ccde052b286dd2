pub mod KeyCompareLaws
pub mod RisingLaws
pub mod LedgerLaws
pub mod SpotLaws
pub mod LedgerEditLaws
