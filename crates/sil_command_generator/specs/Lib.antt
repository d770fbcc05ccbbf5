pub mod Parts
pub mod WorkFunctions
pub mod GeneratedModules
pub mod inner
