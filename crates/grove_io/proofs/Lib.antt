mod Moved
mod Tried
