pub mod Table
pub mod FilesPlaced
pub mod AcceptedBinder
pub mod FileStretches
pub mod FilesListed
