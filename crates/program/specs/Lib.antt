pub mod Faults
pub mod View
pub mod Steps
pub mod Windows
