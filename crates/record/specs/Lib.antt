pub mod RecordRules
pub mod Opening
