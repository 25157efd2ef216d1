pub mod ReadSpec
pub mod InExpressions
