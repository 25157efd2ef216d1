pub mod RowsSoFar
pub mod FewColumns
pub mod EventLines
pub mod Stepped
pub mod RootsStand
pub mod Idle
pub mod Started
