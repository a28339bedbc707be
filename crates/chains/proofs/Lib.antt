mod Trails
mod Moves
mod Lists
mod States
mod Searches
mod Outcomes
pub mod Ordered
pub mod Props
mod Blanks
mod Walks
