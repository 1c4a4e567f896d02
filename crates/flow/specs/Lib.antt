pub mod FlowJudged
pub mod FlowJudgedLaws
pub mod FlowLaws
