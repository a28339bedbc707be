pub mod Rows
pub mod Whole
pub mod Offsets
pub mod Props
