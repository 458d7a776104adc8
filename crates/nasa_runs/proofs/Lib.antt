pub mod Fresh
pub mod AllRuns
pub mod StepsBack
