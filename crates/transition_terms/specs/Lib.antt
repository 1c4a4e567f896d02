pub mod Divisors
pub mod DivisorsLaws
