pub mod Games
pub mod Guesses
pub mod Laws
pub mod Plays
