pub mod Commands
pub mod Lines
pub mod TextLines
pub mod Items
pub mod Answers
pub mod Shows
pub mod Transcripts
