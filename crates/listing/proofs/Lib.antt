pub mod Texts
pub mod Progress
