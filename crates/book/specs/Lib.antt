pub mod Spans
pub mod Meanings
pub mod Refusals
pub mod Calls
pub mod Bare
pub mod Laws
pub mod Empty
