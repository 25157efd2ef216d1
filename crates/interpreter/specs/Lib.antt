pub mod Interpreted
pub mod Lines
