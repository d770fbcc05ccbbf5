pub mod Sourcing
pub mod ArgumentsTold
pub mod TrivialArguments
pub mod RootsTold
