-- Computed cases.
pub mod RewriteCases
