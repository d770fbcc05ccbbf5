pub mod Lists
pub mod FieldLimits
pub mod PlacesApart
