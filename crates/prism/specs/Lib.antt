-- PRISM's explicit files: request K9 of document 02.
pub mod definitions
