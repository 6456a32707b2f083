pub mod Elements
pub mod Escapes
pub mod Pictures
pub mod Records
