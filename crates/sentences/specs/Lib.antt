-- Sentences for the help desk: request K12 of document 02.
pub mod definitions
