pub mod Progressing
pub mod PartLaws
pub mod ProgressLaws
pub mod KeptLaws
pub mod StepLaws
