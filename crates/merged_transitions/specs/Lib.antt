pub mod MergedTransitions
pub mod ChainsLaws
pub mod DistinctLaws
pub mod RoomLaws
pub mod MergedTransitionsLaws
