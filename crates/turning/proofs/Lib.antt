mod Copies
mod Tiling
mod Pieces
mod Lines
mod Compact
mod One
