pub mod Placing
pub mod LumaSamples
