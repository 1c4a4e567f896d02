-- Document 02, K4: the call that writes the sheet of an accepted certificate.
use Rattle.std.specs.Prelude.{ℕ, zero, suc, List, [], ◌∷◌}
use Rattle.bisimulation.specs.definitions.Automaton.{Automaton}
use Rattle.bisimulation.specs.definitions.Pairs.{Pairs, equal_labels}
use Rattle.rules.specs.definitions.Limits.{current}
use Rattle.rules.specs.definitions.Model.{Model, automaton_of}
use Rattle.rules.specs.definitions.Certificate.{FileRule, refutation_count, pairs_after, after_refutation}
use Rattle.rules.specs.definitions.Answers.{Follows, writes_file, LateNumber}
use Rattle.block_sheet.specs.definitions.Sheet.{sheet}

-- the pairs left by the refutations left from a place on, as judging goes through them
unfoldable pub related_after : FileRule → Automaton → List ℕ → (left : ℕ) → Pairs → (at : ℕ) → Pairs
related_after rule A C zero R at = R
related_after rule A C (suc left) R at = related_after rule A C left (pairs_after A C R at) (after_refutation rule A C at)

-- 'still related': the pairs left by all refutations of a certificate
unfoldable pub still_related : FileRule → Automaton → List ℕ → Pairs
still_related rule A C = related_after rule A C (refutation_count C) (equal_labels A) 4

-- the sheet of a model and its accepted blocks
unfoldable pub sheet_file : FileRule → (C : List ℕ) → Model → (blocks : List ℕ) → List ℕ
sheet_file rule C N blocks = sheet (still_related rule (automaton_of N) C) blocks

-- '28, sheet buffer too short, after acceptance'; 'a call lends no buffer but those its request names'
abbrev pub writes_sheet : FileRule → (C : List ℕ) → Follows
writes_sheet rule C = writes_file 28 (sheet_file rule C)

-- its numbers
abbrev pub SheetNumber : ℕ → Type 0
SheetNumber = LateNumber current.terms (28 ∷ [])
