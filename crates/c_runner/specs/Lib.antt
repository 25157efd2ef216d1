pub mod Read
pub mod Executed
pub mod Lines
