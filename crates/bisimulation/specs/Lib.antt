-- The automaton, the step rule, the largest relation and two automata side by side, for automata of any size: no bytes, no limits.
pub mod definitions
