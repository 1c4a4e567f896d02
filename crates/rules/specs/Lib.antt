-- Document 01's rules of the files: what stands in them, when they are refused and where, and what each call answers.
pub mod definitions
