pub mod TapWeights
pub mod Fields
pub mod InOrder
