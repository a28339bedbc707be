pub mod Asked
pub mod Draws
