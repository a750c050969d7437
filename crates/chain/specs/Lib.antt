pub mod Chains
pub mod Places
pub mod Walks
pub mod Records
pub mod Links
