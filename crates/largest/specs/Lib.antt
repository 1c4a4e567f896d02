pub mod Largest
pub mod Repeated
pub mod LargestLaws
