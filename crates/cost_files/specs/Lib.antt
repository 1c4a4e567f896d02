-- The files of models with costs, request K6 of document 02: what stands in them, when they are refused and where, and what is accepted.
pub mod definitions
