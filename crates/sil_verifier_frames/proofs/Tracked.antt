pub mod HowValuesEnd
pub mod ConsumedValues
pub mod OperandsFound
pub mod ResultsPut
pub mod NextItems
pub mod Entering
pub mod TrackedSteps
pub mod Begun
