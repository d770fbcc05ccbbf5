pub mod Availability
