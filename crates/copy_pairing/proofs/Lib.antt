pub mod MovedCopies
pub mod Sizes
pub mod Answered
pub mod Keys
pub mod Shapes
pub mod Passed
pub mod TurnsThere
pub mod KeptNotes
