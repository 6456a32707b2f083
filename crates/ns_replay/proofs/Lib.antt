pub mod Json
pub mod Loop
pub mod Numbers
pub mod Outcomes
pub mod Plans
pub mod Prelude
pub mod Runs
pub mod Texts
