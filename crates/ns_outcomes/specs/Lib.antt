pub mod Answers
pub mod Drawn
pub mod Names
pub mod Outcomes
pub mod Standings
pub mod Tallies
pub mod Texts
