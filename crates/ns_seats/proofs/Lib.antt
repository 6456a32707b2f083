pub mod AtOnce
pub mod Meetings
pub mod Numbered
pub mod Sights
pub mod Views
