-- The sheet byte by byte, and what the call that writes it answers, case by case.
use Rattle.std.specs.Prelude.{ℕ, ◌≡◌, refl, List, [], ◌∷◌, ◌++◌, eqb, replicate}
use Rattle.bisimulation.specs.definitions.Choice.{if_less, if_same, if_true, both, count_below}
use Rattle.bisimulation.specs.definitions.Pairs.{equal_labels, is_pair, removed}
use Rattle.rules.specs.definitions.Bytes.{byte_at, two_at}
use Rattle.rules.specs.definitions.Model.{automaton_of}
use Rattle.rules.specs.definitions.Reading.{states_of, actions_of, count_of, source_at, action_at, denominator_at, entry_count_at, after_transition, entries_at, transition_at, transitions_at, model_at}
use Rattle.rules.specs.definitions.Certificate.{refutation_count, challenger_at, defender_at, after_refutation, pairs_after, same_block}
use Rattle.rules.specs.definitions.PlainRule.{by_kind, plain_price_count, plain_rule}
use Rattle.rules.specs.definitions.BlockCount.{block_count}
use Rattle.rules.specs.definitions.SoundModel.{Each}
use Rattle.rules.specs.definitions.Answers.{Outcome, answer_without_place, unwritten, filled_with, filled_each, filled, room_for, files_outcome}
use Rattle.rules.proofs.cases.Cases.{model_s, certificate_s}
use Rattle.rules.proofs.cases.MoreCases.{outcome_of}
use Rattle.block_sheet.specs.definitions.Sheet.{column, cell, blank, first_cell, cells, line, lines, line_count, ascending, members, size_column, block_lines, sheet_from, sheet}
use Rattle.block_sheet.specs.definitions.SheetAnswer.{related_after, still_related, sheet_file, writes_sheet}

-- so many spaces
abbrev spaces : ℕ → List ℕ
spaces k = replicate k 0x20

-- a number and its 4 columns
pub record CellCase : Type 0 where
  pub number : ℕ
  pub expected : List ℕ

unfoldable pub cell_cases : List CellCase
cell_cases =
    record { number = 0; expected = 0x20 ∷ 0x20 ∷ 0x20 ∷ 0x30 ∷ [] }
    ∷ record { number = 9; expected = 0x20 ∷ 0x20 ∷ 0x20 ∷ 0x39 ∷ [] }
    ∷ record { number = 10; expected = 0x20 ∷ 0x20 ∷ 0x31 ∷ 0x30 ∷ [] }
    ∷ record { number = 99; expected = 0x20 ∷ 0x20 ∷ 0x39 ∷ 0x39 ∷ [] }
    ∷ record { number = 105; expected = 0x20 ∷ 0x31 ∷ 0x30 ∷ 0x35 ∷ [] }
    ∷ record { number = 1000; expected = 0x31 ∷ 0x30 ∷ 0x30 ∷ 0x30 ∷ [] }
    ∷ record { number = 9876; expected = 0x39 ∷ 0x38 ∷ 0x37 ∷ 0x36 ∷ [] }
    ∷ []

-- blocks, and their sheet where the states of a block are those still related
pub record SheetCase : Type 0 where
  pub blocks : List ℕ
  pub expected : List ℕ

unfoldable pub sheet_cases : List SheetCase
sheet_cases =
    -- one state: number, size and member in 4 columns each, and 15 unused cells
    record {
      blocks = 0 ∷ [];
      expected =
          spaces 3 ++ ((0x30 ∷ []) ++ (spaces 3 ++ ((0x31 ∷ []) ++ (spaces 3 ++ ((0x30 ∷ []) ++ (spaces 60 ++ ((0x0A ∷ []))))))));
    }
    -- blocks ascend, and the members of each
    ∷ record {
      blocks = 0 ∷ 1 ∷ 0 ∷ 0 ∷ 1 ∷ [];
      expected =
          spaces 3 ++ ((0x30 ∷ []) ++ (spaces 3 ++ ((0x33 ∷ []) ++ (spaces 3 ++ ((0x30 ∷ []) ++ (spaces 3 ++ ((0x32 ∷ []) ++ (spaces 3 ++ ((0x33 ∷ []) ++ (spaces 52 ++ ((0x0A ∷ [])
          ++ (spaces 3 ++ ((0x31 ∷ []) ++ (spaces 3 ++ ((0x32 ∷ []) ++ (spaces 3 ++ ((0x31 ∷ []) ++ (spaces 3 ++ ((0x34 ∷ []) ++ (spaces 56 ++ ((0x0A ∷ []))))))))))))))))))))));
    }
    -- 16 members fill a line
    ∷ record {
      blocks = replicate 16 0;
      expected =
          spaces 3 ++ ((0x30 ∷ []) ++ (spaces 2 ++ ((0x31 ∷ 0x36 ∷ []) ++ (spaces 3 ++ ((0x30 ∷ []) ++ (spaces 3 ++ ((0x31 ∷ []) ++ (spaces 3 ++ ((0x32 ∷ []) ++ (spaces 3 ++ ((0x33 ∷ []) ++ (spaces 3 ++ ((0x34 ∷ []) ++ (spaces 3 ++ ((0x35 ∷ []) ++ (spaces 3 ++ ((0x36 ∷ []) ++ (spaces 3 ++ ((0x37 ∷ []) ++ (spaces 3 ++ ((0x38 ∷ []) ++ (spaces 3 ++ ((0x39 ∷ []) ++ (spaces 2 ++ ((0x31 ∷ 0x30 ∷ []) ++ (spaces 2 ++ ((0x31 ∷ 0x31 ∷ []) ++ (spaces 2 ++ ((0x31 ∷ 0x32 ∷ []) ++ (spaces 2 ++ ((0x31 ∷ 0x33 ∷ []) ++ (spaces 2 ++ ((0x31 ∷ 0x34 ∷ []) ++ (spaces 2 ++ ((0x31 ∷ 0x35 ∷ 0x0A ∷ []))))))))))))))))))))))))))))))))))));
    }
    -- the 17th stands on a further line, which leaves the first 8 columns blank
    ∷ record {
      blocks = replicate 17 0;
      expected =
          spaces 3 ++ ((0x30 ∷ []) ++ (spaces 2 ++ ((0x31 ∷ 0x37 ∷ []) ++ (spaces 3 ++ ((0x30 ∷ []) ++ (spaces 3 ++ ((0x31 ∷ []) ++ (spaces 3 ++ ((0x32 ∷ []) ++ (spaces 3 ++ ((0x33 ∷ []) ++ (spaces 3 ++ ((0x34 ∷ []) ++ (spaces 3 ++ ((0x35 ∷ []) ++ (spaces 3 ++ ((0x36 ∷ []) ++ (spaces 3 ++ ((0x37 ∷ []) ++ (spaces 3 ++ ((0x38 ∷ []) ++ (spaces 3 ++ ((0x39 ∷ []) ++ (spaces 2 ++ ((0x31 ∷ 0x30 ∷ []) ++ (spaces 2 ++ ((0x31 ∷ 0x31 ∷ []) ++ (spaces 2 ++ ((0x31 ∷ 0x32 ∷ []) ++ (spaces 2 ++ ((0x31 ∷ 0x33 ∷ []) ++ (spaces 2 ++ ((0x31 ∷ 0x34 ∷ []) ++ (spaces 2 ++ ((0x31 ∷ 0x35 ∷ 0x0A ∷ [])
          ++ (spaces 10 ++ ((0x31 ∷ 0x36 ∷ []) ++ (spaces 60 ++ ((0x0A ∷ []))))))))))))))))))))))))))))))))))))))));
    }
    -- 33 members take three lines
    ∷ record {
      blocks = replicate 33 0;
      expected =
          spaces 3 ++ ((0x30 ∷ []) ++ (spaces 2 ++ ((0x33 ∷ 0x33 ∷ []) ++ (spaces 3 ++ ((0x30 ∷ []) ++ (spaces 3 ++ ((0x31 ∷ []) ++ (spaces 3 ++ ((0x32 ∷ []) ++ (spaces 3 ++ ((0x33 ∷ []) ++ (spaces 3 ++ ((0x34 ∷ []) ++ (spaces 3 ++ ((0x35 ∷ []) ++ (spaces 3 ++ ((0x36 ∷ []) ++ (spaces 3 ++ ((0x37 ∷ []) ++ (spaces 3 ++ ((0x38 ∷ []) ++ (spaces 3 ++ ((0x39 ∷ []) ++ (spaces 2 ++ ((0x31 ∷ 0x30 ∷ []) ++ (spaces 2 ++ ((0x31 ∷ 0x31 ∷ []) ++ (spaces 2 ++ ((0x31 ∷ 0x32 ∷ []) ++ (spaces 2 ++ ((0x31 ∷ 0x33 ∷ []) ++ (spaces 2 ++ ((0x31 ∷ 0x34 ∷ []) ++ (spaces 2 ++ ((0x31 ∷ 0x35 ∷ 0x0A ∷ [])
          ++ (spaces 10 ++ ((0x31 ∷ 0x36 ∷ []) ++ (spaces 2 ++ ((0x31 ∷ 0x37 ∷ []) ++ (spaces 2 ++ ((0x31 ∷ 0x38 ∷ []) ++ (spaces 2 ++ ((0x31 ∷ 0x39 ∷ []) ++ (spaces 2 ++ ((0x32 ∷ 0x30 ∷ []) ++ (spaces 2 ++ ((0x32 ∷ 0x31 ∷ []) ++ (spaces 2 ++ ((0x32 ∷ 0x32 ∷ []) ++ (spaces 2 ++ ((0x32 ∷ 0x33 ∷ []) ++ (spaces 2 ++ ((0x32 ∷ 0x34 ∷ []) ++ (spaces 2 ++ ((0x32 ∷ 0x35 ∷ []) ++ (spaces 2 ++ ((0x32 ∷ 0x36 ∷ []) ++ (spaces 2 ++ ((0x32 ∷ 0x37 ∷ []) ++ (spaces 2 ++ ((0x32 ∷ 0x38 ∷ []) ++ (spaces 2 ++ ((0x32 ∷ 0x39 ∷ []) ++ (spaces 2 ++ ((0x33 ∷ 0x30 ∷ []) ++ (spaces 2 ++ ((0x33 ∷ 0x31 ∷ 0x0A ∷ [])
          ++ (spaces 10 ++ ((0x33 ∷ 0x32 ∷ []) ++ (spaces 60 ++ ((0x0A ∷ []))))))))))))))))))))))))))))))))))))))))))))))))))))))))))))))))))))))));
    }
    -- numbers of two digits
    ∷ record {
      blocks = 0 ∷ 1 ∷ 2 ∷ 3 ∷ 4 ∷ 5 ∷ 6 ∷ 7 ∷ 8 ∷ 9 ∷ 10 ∷ [];
      expected =
          spaces 3 ++ ((0x30 ∷ []) ++ (spaces 3 ++ ((0x31 ∷ []) ++ (spaces 3 ++ ((0x30 ∷ []) ++ (spaces 60 ++ ((0x0A ∷ [])
          ++ (spaces 3 ++ ((0x31 ∷ []) ++ (spaces 3 ++ ((0x31 ∷ []) ++ (spaces 3 ++ ((0x31 ∷ []) ++ (spaces 60 ++ ((0x0A ∷ [])
          ++ (spaces 3 ++ ((0x32 ∷ []) ++ (spaces 3 ++ ((0x31 ∷ []) ++ (spaces 3 ++ ((0x32 ∷ []) ++ (spaces 60 ++ ((0x0A ∷ [])
          ++ (spaces 3 ++ ((0x33 ∷ []) ++ (spaces 3 ++ ((0x31 ∷ []) ++ (spaces 3 ++ ((0x33 ∷ []) ++ (spaces 60 ++ ((0x0A ∷ [])
          ++ (spaces 3 ++ ((0x34 ∷ []) ++ (spaces 3 ++ ((0x31 ∷ []) ++ (spaces 3 ++ ((0x34 ∷ []) ++ (spaces 60 ++ ((0x0A ∷ [])
          ++ (spaces 3 ++ ((0x35 ∷ []) ++ (spaces 3 ++ ((0x31 ∷ []) ++ (spaces 3 ++ ((0x35 ∷ []) ++ (spaces 60 ++ ((0x0A ∷ [])
          ++ (spaces 3 ++ ((0x36 ∷ []) ++ (spaces 3 ++ ((0x31 ∷ []) ++ (spaces 3 ++ ((0x36 ∷ []) ++ (spaces 60 ++ ((0x0A ∷ [])
          ++ (spaces 3 ++ ((0x37 ∷ []) ++ (spaces 3 ++ ((0x31 ∷ []) ++ (spaces 3 ++ ((0x37 ∷ []) ++ (spaces 60 ++ ((0x0A ∷ [])
          ++ (spaces 3 ++ ((0x38 ∷ []) ++ (spaces 3 ++ ((0x31 ∷ []) ++ (spaces 3 ++ ((0x38 ∷ []) ++ (spaces 60 ++ ((0x0A ∷ [])
          ++ (spaces 3 ++ ((0x39 ∷ []) ++ (spaces 3 ++ ((0x31 ∷ []) ++ (spaces 3 ++ ((0x39 ∷ []) ++ (spaces 60 ++ ((0x0A ∷ [])
          ++ (spaces 2 ++ ((0x31 ∷ 0x30 ∷ []) ++ (spaces 3 ++ ((0x31 ∷ []) ++ (spaces 2 ++ ((0x31 ∷ 0x30 ∷ []) ++ (spaces 60 ++ ((0x0A ∷ []))))))))))))))))))))))))))))))))))))))))))))))))))))))))))))))))))))))))))))))))))))))));
    }
    ∷ []

-- the size column counts the states still related to the first member, and not the members: states 0 and 1 are a block, 2 the other, and state 0 alone is
-- related to anything, to all three
unfoldable pub first_related : List ℕ
first_related =
    spaces 3 ++ ((0x30 ∷ []) ++ (spaces 3 ++ ((0x33 ∷ []) ++ (spaces 3 ++ ((0x30 ∷ []) ++ (spaces 3 ++ ((0x31 ∷ []) ++ (spaces 56 ++ ((0x0A ∷ [])
    ++ (spaces 3 ++ ((0x31 ∷ []) ++ (spaces 3 ++ ((0x30 ∷ []) ++ (spaces 3 ++ ((0x32 ∷ []) ++ (spaces 60 ++ ((0x0A ∷ []))))))))))))))))))

-- the sheet of pair S
unfoldable pub sheet_s : List ℕ
sheet_s =
    spaces 3 ++ ((0x30 ∷ []) ++ (spaces 3 ++ ((0x32 ∷ []) ++ (spaces 3 ++ ((0x30 ∷ []) ++ (spaces 3 ++ ((0x31 ∷ []) ++ (spaces 56 ++ ((0x0A ∷ [])
    ++ (spaces 3 ++ ((0x31 ∷ []) ++ (spaces 3 ++ ((0x31 ∷ []) ++ (spaces 3 ++ ((0x32 ∷ []) ++ (spaces 60 ++ ((0x0A ∷ []))))))))))))))))))

-- pair S accepted: the lent buffer before, and what the call answers and leaves in the buffer
pub record SheetOutcome : Type 0 where
  pub before : List ℕ
  pub expected : Outcome

unfoldable pub sheet_outcomes : List SheetOutcome
sheet_outcomes =
    -- a buffer that is longer by two bytes, which stay
    record { before = replicate 148 7; expected = outcome_of 0 0 0 0 0 146 (sheet_s ++ (7 ∷ 7 ∷ [])) }
    -- as long as the sheet
    ∷ record { before = replicate 146 7; expected = outcome_of 0 0 0 0 0 146 sheet_s }
    -- shorter: 28, without a place, and nothing written
    ∷ record { before = replicate 145 7; expected = outcome_of 28 0 0 0 0 0 (replicate 145 7) }
    ∷ []

pub sheet-cases : Each (λ (c : CellCase). cell c.number ≡ c.expected) cell_cases × Each (λ (c : SheetCase). sheet (same_block c.blocks) c.blocks ≡ c.expected) sheet_cases × (sheet (λ v u. eqb v 0) (0 ∷ 0 ∷ 1 ∷ []) ≡ first_related) × Each (λ (c : SheetOutcome). (writes_sheet plain_rule certificate_s).outcome (model_at model_s) (0 ∷ 0 ∷ 1 ∷ []) (c.before ∷ []) ≡ c.expected) sheet_outcomes
unfolding if_less if_same if_true both count_below equal_labels is_pair removed byte_at two_at automaton_of states_of actions_of count_of source_at action_at denominator_at entry_count_at after_transition entries_at transition_at transitions_at model_at refutation_count challenger_at defender_at after_refutation pairs_after same_block by_kind plain_price_count block_count Each answer_without_place unwritten filled_with filled_each filled room_for files_outcome model_s certificate_s column cell blank first_cell cells line lines line_count ascending members size_column block_lines sheet_from sheet related_after still_related sheet_file cell_cases sheet_cases first_related sheet_s sheet_outcomes
sheet-cases = (
  (refl, (refl, (refl, (refl, (refl, (refl, (refl, tt))))))),
  (refl, (refl, (refl, (refl, (refl, (refl, tt)))))),
  refl,
  (refl, (refl, (refl, tt))),
)
