pub mod EditLaws
pub mod CountLaws
pub mod BoundLaws
pub mod RoomLaws
pub mod Alike
pub mod Fits
pub mod TickLaws
pub mod SameQueues
