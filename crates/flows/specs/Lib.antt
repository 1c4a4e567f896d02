pub mod FlowsJudged
pub mod Going
pub mod GoingLaws
