-- Two models working side by side, and a model with actions hidden: request K11 of document 02.
pub mod definitions
