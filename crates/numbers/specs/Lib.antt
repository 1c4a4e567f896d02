-- Numbers in decimal, and the greatest common divisor: what several requests of document 02 need.
pub mod definitions
pub mod cases
