pub mod Parts
pub mod Taken
pub mod TakenLaws
