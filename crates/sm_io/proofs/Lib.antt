pub mod WrittenParts
pub mod Keys
pub mod Shelves
pub mod Written
pub mod Truths
pub mod Elements
pub mod Transfers
