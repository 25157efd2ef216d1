pub mod Words
pub mod Decimals
pub mod Magnitudes
pub mod Literals
