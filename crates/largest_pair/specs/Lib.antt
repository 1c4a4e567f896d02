-- How large a certificate can get: request K13 of document 02.
pub mod definitions
