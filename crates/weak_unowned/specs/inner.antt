pub mod IdleSlots
