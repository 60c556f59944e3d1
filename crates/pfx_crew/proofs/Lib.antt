mod Examples
mod Gathers
mod Items
mod Moves
mod Orders
mod Rows
mod Works
