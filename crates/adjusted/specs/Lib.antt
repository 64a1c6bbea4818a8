pub mod Adjusted
pub mod Bends
