mod Taking
mod Putting
mod Held
mod Shells
mod Undone
