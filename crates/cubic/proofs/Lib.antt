pub mod PositionTables
pub mod Storing
mod CubicValues
mod TapRows
mod InsideTaps
pub mod Along
