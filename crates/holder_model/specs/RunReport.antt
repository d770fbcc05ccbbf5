pub mod ValueTexts
pub mod ReportLines
