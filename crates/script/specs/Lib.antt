pub mod Answers
pub mod Bytes
pub mod Entries
pub mod Numbers
pub mod Reading
pub mod Telling
pub mod Words
