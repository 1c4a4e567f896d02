-- The limits grow: request K7 of document 02.
pub mod definitions
