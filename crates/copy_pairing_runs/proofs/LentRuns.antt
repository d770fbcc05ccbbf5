pub mod Entries
pub mod Operands
pub mod Told
pub mod Items
pub mod DoesAlike
pub mod Cover
pub mod Covered
pub mod AsItDid
