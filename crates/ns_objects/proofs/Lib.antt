pub mod Allowed
pub mod Changes
pub mod HeldWaits
pub mod Prelude
pub mod Rests
pub mod Rounds
pub mod Seats
