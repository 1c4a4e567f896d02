-- Two models as one, and two states compared: request K1 of document 02.
pub mod definitions
