pub mod Session
pub mod MostMoves
