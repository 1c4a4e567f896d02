pub mod Judge
pub mod JudgeLaws
