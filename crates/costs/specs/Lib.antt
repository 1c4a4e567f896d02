-- The step rule with costs, request K6 of document 02, for automata of any size: no bytes, no limits.
pub mod definitions
