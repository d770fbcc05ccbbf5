pub mod ValueKinds
pub mod FaultLists
pub mod TypeAgreement
pub mod RowPlaces
pub mod RowAgreement
pub mod Agreement
pub mod Derived
pub mod Trees
