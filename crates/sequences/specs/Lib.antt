pub mod Steps
pub mod Model
pub mod Runs
pub mod Demand3
pub mod Existence
pub mod ListExamples
pub mod Excluded
pub mod Twice
