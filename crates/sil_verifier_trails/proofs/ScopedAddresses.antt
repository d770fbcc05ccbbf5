pub mod OwnScopes
pub mod AddressRows
pub mod AddressScopes
