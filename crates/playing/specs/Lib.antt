pub mod Playing
pub mod Log
pub mod Asked
