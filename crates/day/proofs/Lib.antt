pub mod BestPlans
pub mod Fronts
