mod Passing
mod WeightTables
mod TableSums
pub mod Weighing
