pub mod StepsTold
pub mod TaskStacks
pub mod WhichFaults
