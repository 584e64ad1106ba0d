pub mod Judging
pub mod Limits
pub mod Refusals
pub mod SlotTerms
pub mod Slots
pub mod Stands
