pub mod Acts
pub mod Driving
