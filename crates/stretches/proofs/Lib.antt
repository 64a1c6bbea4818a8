pub mod Walking
pub mod Adjusting
pub mod Parts
