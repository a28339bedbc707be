pub mod Cells
pub mod Rows
pub mod Made
pub mod Grids
pub mod Views
pub mod Props
