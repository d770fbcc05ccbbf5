pub mod Asked
pub mod Watched
pub mod Answers
pub mod Together
