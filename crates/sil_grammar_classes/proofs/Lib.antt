mod ByLetterLemmas
mod LawLemmas
pub mod SpellingLemmas
