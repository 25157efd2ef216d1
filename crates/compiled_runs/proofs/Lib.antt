pub mod SameColumns
pub mod SameSessions
pub mod SameLines
pub mod SameOutcomes
