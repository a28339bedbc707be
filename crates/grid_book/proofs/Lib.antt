pub mod Starts
pub mod Painting
pub mod Stretches
pub mod Places
pub mod Clear
pub mod Kept
