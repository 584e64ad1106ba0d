pub mod Asking
pub mod Table
