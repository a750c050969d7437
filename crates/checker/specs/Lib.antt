pub mod Walks
pub mod Shown
