pub mod Soundness
pub mod Frames
pub mod Found
pub mod Determined
