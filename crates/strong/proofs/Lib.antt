pub mod argument
pub mod cases
