pub mod FormSteps
pub mod KeptSentences
pub mod OnceSteps
pub mod HistoricallySteps
pub mod YesterdaySteps
pub mod SinceSteps
pub mod ClockSteps
pub mod SizeWords
pub mod BufferLists
mod Samples
mod Chains
mod ReadAgo
mod OnceWithin
mod TestBuffers
mod HistoricallyWithin
mod SinceChain
mod SinceWithin
mod WindowParts
mod WindowSums
mod WindowBests
mod WindowChoices
mod WindowEnds
mod WindowExtremes
pub mod VoteWords
pub mod OutOfForms
pub mod OutOfSpecs
pub mod PlainForms
pub mod LoweredTypes
pub mod BufferStreams
pub mod LoweredParts
pub mod LoweredValues
pub mod LoweredTables
pub mod LoweredSteps
pub mod LoweredMeaning
pub mod KeptDeclarations
pub mod KeptForms
pub mod LoweredCalls
