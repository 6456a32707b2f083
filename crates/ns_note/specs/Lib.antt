pub mod Answers
pub mod Known
pub mod Law
pub mod Names
pub mod Prelude
pub mod Told
pub mod Words
