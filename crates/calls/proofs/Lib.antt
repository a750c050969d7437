pub mod Slots
pub mod Calls
pub mod Promise
pub mod Entries
pub mod Refusals
pub mod OneCall
