pub mod Mapped
pub mod Planned
pub mod Promised
pub mod Runs
