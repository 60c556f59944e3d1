mod Adding
mod Examples
mod Moves
mod Prefixes
