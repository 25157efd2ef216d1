pub mod Made
pub mod Texts
pub mod Windows
pub mod Added
