pub mod Stepping
pub mod Session
pub mod Standing
pub mod Letters
