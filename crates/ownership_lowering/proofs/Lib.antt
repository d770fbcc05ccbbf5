mod Accepted
mod InPlace
mod Runnable
