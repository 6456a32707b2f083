pub mod Answers
pub mod Asked
pub mod Endings
pub mod Lives
pub mod Printing
pub mod Words
