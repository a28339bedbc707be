pub mod Bookings
pub mod Scans
pub mod Books
pub mod Made
pub mod Views
pub mod Props
