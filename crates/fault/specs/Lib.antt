pub mod Faults
pub mod FaultsLaws
pub mod Numbers
