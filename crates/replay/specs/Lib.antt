pub mod PlainRun
pub mod Promise
pub mod Telling
