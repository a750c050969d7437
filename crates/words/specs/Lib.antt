pub mod Words
pub mod Arithmetic
pub mod WordLaws
pub mod Powers
pub mod ArithmeticLemmas
