pub mod Passing
pub mod Itemizing
