pub mod LoweredTyped
