pub mod Demonstration
pub mod Figures
pub mod Built
