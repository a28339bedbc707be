pub mod Records
pub mod Places
pub mod Steps
pub mod Calls
pub mod Boards
pub mod Views
pub mod Laws
