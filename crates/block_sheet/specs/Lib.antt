-- The block sheet: request K4 of document 02.
pub mod definitions
