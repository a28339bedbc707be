pub mod Net
pub mod Times
pub mod Refusals
pub mod Calls
pub mod Views
