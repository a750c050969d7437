pub mod Model
pub mod Faults
