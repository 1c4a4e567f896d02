-- What the call that writes the sheet promises, in the definitions of document 02, K4.
use Rattle.std.specs.Prelude.{ℕ, List, [], ◌∷◌}
use Rattle.rules.specs.definitions.JudgedBy.{plain_pairs}
use Rattle.rules.specs.definitions.PlainRule.{plain_rule}
use Rattle.rules.specs.definitions.Demands.{Demands}
use Rattle.block_sheet.specs.definitions.SheetAnswer.{writes_sheet, SheetNumber}
use Rattle.answer.specs.declared.Answer.{Answer}
use Rattle.judgement.specs.Verdicts.{PairAnswered}

-- a pair judged by document 01's rules, the sheet written into the lent buffer
abbrev pub SheetAnswered : (model certificate before after : List ℕ) → Answer → Type 0
SheetAnswered model certificate before after r =
    PairAnswered plain_pairs (writes_sheet plain_rule certificate) (Demands plain_pairs (writes_sheet plain_rule certificate) SheetNumber) model certificate (before ∷ []) (after ∷ []) r
