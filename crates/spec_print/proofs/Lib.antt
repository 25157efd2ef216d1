pub mod Items
pub mod Worded
pub mod Scanned
