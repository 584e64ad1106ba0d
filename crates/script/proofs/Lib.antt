pub mod Cuts
pub mod Digits
pub mod Knots
pub mod Readings
pub mod Sides
pub mod Steps
pub mod Texts
