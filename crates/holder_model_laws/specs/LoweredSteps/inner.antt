pub mod LowWays
