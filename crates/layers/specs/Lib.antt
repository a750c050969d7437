pub mod Layers
pub mod PoisonLaws
pub mod Unions
pub mod Standing
pub mod TrapLaws
