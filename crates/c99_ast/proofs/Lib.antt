pub mod Sizes
pub mod Filled
pub mod Parting
