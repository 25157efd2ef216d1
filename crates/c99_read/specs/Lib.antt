-- A reader of the two texts, as functions on lists. The code follows it, and the laws are proved by it; of these files,
-- public clauses cite Headers, Expressions and Reads alone.
pub mod Front
pub mod TypeAt
pub mod ExprAt
pub mod WordsAt
pub mod LineAt
pub mod UnitAt
pub mod Gives
pub mod Headers
pub mod Expressions
pub mod Reads
