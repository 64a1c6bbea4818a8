pub mod PositionTables
pub mod InsideTaps
pub mod Stretches
