pub mod Coldest
pub mod Leans
pub mod Plans
pub mod Theorems
