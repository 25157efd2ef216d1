pub mod Buffers
pub mod ScalarTerms
pub mod VoteTerms
pub mod Kept
