pub mod Confirmed
pub mod Moves
pub mod Carrying
