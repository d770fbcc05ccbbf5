pub mod Replay
pub mod Lacking
