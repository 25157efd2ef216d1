pub mod Built
pub mod Renamed
pub mod Made
pub mod PlainSpecs
pub mod Room
pub mod WorkedForms
