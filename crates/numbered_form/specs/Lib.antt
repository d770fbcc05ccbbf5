pub mod Lists
pub mod Insts
pub mod Numbering
pub mod Names
pub mod inner
pub mod ValueTables
pub mod PointChecks
pub use Rattle.sil_rules.specs as sil_rules
