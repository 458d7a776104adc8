pub mod BytesAt
pub mod PartSizes
pub mod HistoryReadBack
pub mod WriteBack
pub mod NoNan
pub mod Owned
pub mod StaysHeld
pub mod CallsReadBack
