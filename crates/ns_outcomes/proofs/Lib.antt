pub mod Begun
pub mod Draws
pub mod Prelude
pub mod Runs
pub mod Tallies
pub mod Texts
pub mod Written
