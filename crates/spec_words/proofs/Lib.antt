pub mod WordLaws
pub mod DecimalLaws
pub mod LiteralLaws
pub mod ReadBack
