-- What a buyer reads and believes.
pub mod Choice
pub mod Sum
pub mod Automaton
pub mod StepRule
pub mod Pairs
pub mod Prices
pub mod Refutation
pub mod Rule
pub mod PairsLeft
pub mod Blocks
pub mod Largest
pub mod StandsFor
pub mod Joined
pub mod Beside
pub mod Composed
pub mod Hidden
