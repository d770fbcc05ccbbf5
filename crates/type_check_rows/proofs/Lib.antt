mod Finding
mod Pairing
