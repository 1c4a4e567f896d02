-- The small model for the large one, of files: request K8 of document 02.
pub mod definitions
