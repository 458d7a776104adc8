pub mod AllRuns
pub mod StepsBack
