pub mod Tables
pub mod Loading
pub mod Running
pub mod Looking
pub mod Steps
pub mod Windows
