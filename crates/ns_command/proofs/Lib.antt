pub mod Getters
pub mod Heeded
