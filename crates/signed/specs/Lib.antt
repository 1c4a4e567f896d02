pub mod Terms
pub mod TermsLaws
pub mod Larger
pub mod LargerLaws
