pub mod Cuts
pub mod Wholes
