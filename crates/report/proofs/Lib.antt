pub mod PlanPasses
pub mod PlanTexts
pub mod Writing
