pub mod RunRecords
pub mod WorkedRecords
pub mod Isolated
