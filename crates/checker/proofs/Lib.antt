pub mod Above
pub mod Walks
pub mod Sides
pub mod Searches
