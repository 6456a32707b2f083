pub mod Laws
pub mod Rings
pub mod Wishes
