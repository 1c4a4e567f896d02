-- A refutation judged.
pub mod RefutationJudged
pub mod RefutationLaws
