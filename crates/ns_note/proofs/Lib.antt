pub mod Allowed
pub mod Codec
pub mod Looks
pub mod Prelude
pub mod Rests
pub mod Seats
pub mod Words
