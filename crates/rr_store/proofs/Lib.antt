mod Padding
mod Keeping
mod Numbering
