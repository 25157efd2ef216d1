pub mod Giving
pub mod Commas
pub mod Spelled
pub mod Rings
