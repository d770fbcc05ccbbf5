pub mod Chains
pub mod FewValues
pub mod Steps
pub mod Noting
pub mod Numbering
pub mod Told
