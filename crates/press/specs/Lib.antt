pub mod Press
pub mod HeldDown
