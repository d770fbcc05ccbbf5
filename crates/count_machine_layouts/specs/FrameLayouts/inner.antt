pub mod Carried
pub mod Laid
pub mod Layouts
pub mod Sized
