pub mod Acceptance
pub mod Earliest
pub mod Outside
pub mod Prices
pub mod Stands
pub mod WithinBounds
