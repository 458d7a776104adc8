pub mod ExactGaps
