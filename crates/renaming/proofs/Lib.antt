pub mod ListsRenamed
pub mod Exchanged
pub mod AskedRenamed
pub mod BoundsRenamed
pub mod EditsRenamed
pub mod NeedsRenamed
pub mod EffectsRenamed
pub mod StepsRenamed
