mod Searched
mod Made
mod Kept
mod InTurn
