-- A cost model given to a call without costs has bytes left: 9 at the cost record. A certificate of the other kind has another mark: 12 at 0.
use Rattle.std.specs.Prelude.{ℕ, ◌≤◌, ◌≡◌, List, [], ◌∷◌, length}
use Rattle.std.proofs.Common.{sym, ◌∙◌, arith}
use Rattle.std.proofs.Math.Path.{ap}
use Rattle.rules.specs.definitions.Limits.{current}
use Rattle.rules.specs.definitions.Model.{Model}
use Rattle.rules.specs.definitions.Bytes.{two_at}
use Rattle.rules.specs.definitions.SoundModel.{Bytes}
use Rattle.rules.specs.definitions.Faults.{fault}
use Rattle.rules.specs.definitions.Reading.{read_whole, model, no_model}
use Rattle.rules.specs.definitions.Accepted.{FileOf}
use Rattle.rules.specs.definitions.JudgedBy.{plain_pairs}
use Rattle.rules.specs.definitions.Answers.{Answer, refusal_in, unwritten, Follows, first_lent, fetch_reading, fetch_answer}
use Rattle.rules.specs.definitions.Demands.{outcome_by}
use Rattle.rules.proofs.argument.SoundModelLaws.{current-fit}
use Rattle.rules.proofs.argument.PlainRules.{plain_rules}
use Rattle.rules.proofs.argument.PairOutcome.{outcome-refused}
use Rattle.rules.proofs.argument.DemandsHold.{mark-refused}
use Rattle.rules.proofs.argument.MadeLaws.{first-refused, second-refused}
use Rattle.joined.specs.definitions.JoinAnswer.{join_outcome}
use Rattle.cost_files.specs.definitions.CostModel.{CostFileOf, transitions_end}
use Rattle.cost_files.specs.definitions.CostPairs.{cost_pairs}
use Rattle.cost_files.proofs.argument.CostRules.{cost_rules}
use Rattle.cost_files.proofs.argument.CostReadingLaws.{transitions-end, read-without-costs}

-- a cost model, of whatever automaton and costs
module _ (bytes : List ℕ) {M : Model} (cost : CostFileOf current bytes M) where
  -- 9 at the cost record, in this file
  abbrev pub record_left : (file : ℕ) → Answer
  record_left file = refusal_in (fault 9) file (transitions_end bytes) (length bytes)

  read_left : read_whole current bytes ≡ no_model (fault 9) (transitions_end bytes)
  read_left = read-without-costs current current-fit bytes M cost ∙ ap (no_model (fault 9)) (transitions-end current current-fit bytes M cost)

  -- a call that judges by document 01's rules, whatever follows acceptance
  pub pair_left : (follows : Follows) (certificate : List ℕ) (before : List (List ℕ)) → outcome_by plain_pairs follows bytes certificate before ≡ unwritten (record_left 1) before
  pair_left follows certificate before = sym (outcome-refused _ _ _ follows bytes certificate before _ _ read_left)

  -- the fetch
  pub fetch-left : (state : ℕ) → fetch_answer current bytes state ≡ record_left 1
  unfolding fetch_answer fetch_reading
  fetch-left state = ap (fetch_reading bytes state) read_left

  -- the call that joins: as its first model, whatever the second is
  pub join-first-left : (second before : List ℕ) → join_outcome current (read_whole current) bytes second before ≡ unwritten (record_left 1) (before ∷ [])
  join-first-left second before = sym (first-refused _ _ bytes second (before ∷ []) _ _ read_left)

  -- and as its second
  pub join-second-left : (first before : List ℕ) {N : Model} {end : ℕ} → read_whole current first ≡ model N end → join_outcome current (read_whole current) first bytes before ≡ unwritten (record_left 3) (before ∷ [])
  join-second-left first before e = sym (second-refused _ _ first bytes (before ∷ []) _ _ e read_left)

-- a cost certificate, 43 43, given to a call that judges by document 01's rules, whatever follows acceptance
pub cost-mark-refused : (s C : List ℕ) (M : Model) → Bytes s → FileOf current s M → 2 ≤ length C → two_at C 0 ≡ 0x4343 → (follows : Follows) (before : List (List ℕ)) → follows.block_room M ≤ length (first_lent before) → outcome_by plain_pairs follows s C before ≡ unwritten (refusal_in (fault 12) 2 0 (length C)) before
cost-mark-refused = mark-refused plain_rules 0x4343 (λ s z. omega arith)

-- a certificate without costs, 43 54, given to the call that judges cost pairs
pub plain-mark-refused : (s C : List ℕ) (M : Model) → Bytes s → CostFileOf current s M → 2 ≤ length C → two_at C 0 ≡ 0x4354 → (follows : Follows) (before : List (List ℕ)) → follows.block_room M ≤ length (first_lent before) → outcome_by cost_pairs follows s C before ≡ unwritten (refusal_in (fault 12) 2 0 (length C)) before
plain-mark-refused = mark-refused cost_rules 0x4354 (λ s z. omega arith)
