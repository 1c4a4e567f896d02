pub mod Reduce
pub mod ReduceLaws
