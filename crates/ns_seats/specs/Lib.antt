pub mod Meetings
pub mod Sights
pub mod Views
