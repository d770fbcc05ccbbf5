pub mod ClassAt
pub mod Front
pub mod Laws
pub mod Left
pub mod Shape
