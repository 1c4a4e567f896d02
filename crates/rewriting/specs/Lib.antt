-- Document 02, K10: a stored pair rewritten in lowest terms.
pub mod definitions
