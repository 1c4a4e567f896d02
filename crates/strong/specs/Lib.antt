-- Strong bisimulation: request K14 of document 02.
pub mod definitions
