pub mod TypingValues
