pub mod Faults
pub mod ProblemFaults
pub mod SolutionFaults
pub mod Details
pub mod Promises
pub mod Working
