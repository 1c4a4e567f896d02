-- Laws and theorems: the argument, which the prover has read.
pub mod SheetLaws
pub mod SheetOnceLaws
pub mod SheetJudgedLaws
