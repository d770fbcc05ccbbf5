pub mod PushedMarks
pub mod PatternsDecided
pub mod MarksRead
pub mod SwitchDecided
pub mod GraphPatterns
pub mod RunsAreLawful
pub mod SameMarks
pub mod HeldIsOn
