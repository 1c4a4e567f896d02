-- What a buyer reads and believes.
pub mod Decimal
pub mod Divisor
