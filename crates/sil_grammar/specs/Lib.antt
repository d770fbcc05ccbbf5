pub mod Classes
pub mod Completion
pub mod FirstBad
pub mod Refusals
pub mod Spells
pub mod inner
pub mod SpelledPartsLaws
pub mod NumberedReadingLaws
