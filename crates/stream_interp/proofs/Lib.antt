mod ClosedForms
mod SameSteps
mod Taken
mod EvaluatedRoots
mod LogLists
mod EventsSoFar
mod NextRows
mod PushedRows
mod FirstRows
pub mod TypedStands
mod ReadyRoots
mod FoundSteps
mod WideRings
mod Stepping
pub mod BranchSizes
pub mod FormRooms
pub mod FormValues
pub mod NamedNodes
pub mod NowValues
pub mod PartWidths
pub mod ReadyForms
pub mod ReadyParts
pub mod RingEntries
pub mod RowParts
pub mod FormLoads
pub mod TestValues
pub mod ReadItems
pub mod WorkedTyped
