-- Computed cases.
pub mod Relay
