pub mod TargetPlane
