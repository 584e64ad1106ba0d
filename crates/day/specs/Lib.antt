pub mod Edits
pub mod Followed
pub mod PlainDay
pub mod View
