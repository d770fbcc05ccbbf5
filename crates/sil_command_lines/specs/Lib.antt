pub mod Texts
pub mod ValueTexts
pub mod RefusalTexts
pub mod Summaries
