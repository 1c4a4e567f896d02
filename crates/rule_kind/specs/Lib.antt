pub mod Kinds
pub mod Steps
pub mod KindsLaws
pub mod StepsLaws
