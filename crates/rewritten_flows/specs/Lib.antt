pub mod Flows
pub mod KsLaws
pub mod FlowLaws
pub mod FlowLoops
pub mod FlowsLaws
