pub mod Integers
pub mod Searches
pub mod Sums
pub mod ListParts
