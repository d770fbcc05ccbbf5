pub mod InOrder
pub mod Tables
pub mod Results
pub mod Laws
