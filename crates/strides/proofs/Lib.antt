pub mod StrideIndices
pub mod Aligning
mod StrideTables
