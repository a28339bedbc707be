pub mod Pieces
pub mod Ticks
