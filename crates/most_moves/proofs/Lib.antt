pub mod MostMoves
