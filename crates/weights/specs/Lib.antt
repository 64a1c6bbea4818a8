pub mod TestNumbers
pub mod WeightTests
pub mod RowWeights
