pub mod RingsInBlock
pub mod RowsInWords
pub mod CellWalks
pub mod Blocks
