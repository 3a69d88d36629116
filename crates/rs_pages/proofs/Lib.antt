mod ByPrefix
mod CountItems
mod Items
mod Noted
mod Pieces
mod Placed
