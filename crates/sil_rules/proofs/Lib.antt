pub mod Firsts
pub mod Keys
pub mod Numbers
mod Rising
