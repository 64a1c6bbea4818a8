pub mod Nearly
pub mod Columns
pub mod Told
pub mod Halves
