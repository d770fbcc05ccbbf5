pub mod Drafts
pub mod Standing
pub mod Lowerable
