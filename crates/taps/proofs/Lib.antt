pub mod Exchange
pub mod TapSums
mod Fields
mod Phases
pub mod WeightTable
