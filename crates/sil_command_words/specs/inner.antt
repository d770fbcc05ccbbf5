pub mod ClapCommand
pub mod Laws
