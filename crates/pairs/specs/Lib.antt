-- The related pairs as rows of bits.
pub mod Rows
pub mod RowsLaws
