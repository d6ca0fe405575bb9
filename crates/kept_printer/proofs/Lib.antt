mod Explained
mod Places
mod Told
mod Stack
mod Listed
mod Heads
