pub mod Scalars
pub mod Numbers
pub mod IntTy
pub mod IntTyLaws
pub mod Types
pub mod TypeList
pub mod ArrayPlaces
pub mod Measures
