pub mod Bench
pub mod Histories
pub mod States
pub mod Refusals
pub mod Examples
