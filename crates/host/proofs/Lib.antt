pub mod CallsOnState
