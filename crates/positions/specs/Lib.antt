pub mod Ratios
pub mod RayLines
