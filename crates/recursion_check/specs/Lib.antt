pub mod Graph
pub mod Walked
pub mod Weighed
pub mod Counted
pub mod Loads
pub mod Judged
pub mod TestSpecs
