-- Document 02, K7, of the limits of document 01 and those that K7 gives: 'Stored files are read as they are, and a pair accepted before is
-- accepted with the same blocks. An older part meets a larger sound model with 3 or 8.'
use Rattle.std.specs.Prelude.{ℕ, ◌≤◌, ◌<◌, ◌≡◌, ◌↔◌, ◌⊎◌, List, [], ◌∷◌, length}
use Rattle.std.proofs.Common.{inl, arith}
use Rattle.rules.specs.definitions.Limits.{limits, older_limits}
use Rattle.rules.specs.definitions.Model.{Model}
use Rattle.rules.specs.definitions.SoundModel.{entry_count, FitsWidths}
use Rattle.rules.proofs.argument.SoundModelLaws.{limits-fit}
use Rattle.rules.specs.definitions.Reading.{model, read_whole}
use Rattle.rules.specs.definitions.PlainRule.{plain_rule}
use Rattle.rules.specs.definitions.Accepted.{FileOf}
use Rattle.rules.specs.definitions.JudgedBy.{JudgedBy, plain_pairs_at, stored_pairs, AcceptedBy}
use Rattle.rules.specs.definitions.Answers.{fetch_answer, fetch_outcome, Follows, writes_blocks}
use Rattle.quotient.specs.definitions.ReduceAnswer.{writes_merged}
use Rattle.rules.specs.definitions.Demands.{outcome_by, Accepting}
use Rattle.rules.proofs.argument.PlainRules.{plain_rules_at}
use Rattle.rules.proofs.argument.PairOutcome.{FollowsLaws}
use Rattle.rules.proofs.argument.DemandsHold.{blocks-follow}
use Rattle.quotient.proofs.argument.ReduceAnswerLaws.{merged-follow}
use Rattle.block_sheet.specs.definitions.SheetAnswer.{writes_sheet}
use Rattle.block_sheet.proofs.argument.SheetJudgedLaws.{sheet-follow}
use Rattle.joined.specs.definitions.JoinAnswer.{join_outcome}
use Rattle.joined.specs.definitions.AlikeAnswer.{Named, tests_parts, alike_says}
use Rattle.joined.proofs.argument.AlikeAnswerLaws.{parts-follow}
use Rattle.cost_files.specs.definitions.CostModel.{CostFileOf, costs_in}
use Rattle.cost_files.specs.definitions.CostReading.{read_costs}
use Rattle.cost_files.specs.definitions.CostFile.{cost_file}
use Rattle.cost_files.specs.definitions.CostPairs.{cost_pairs_at, stored_costs}
use Rattle.cost_files.proofs.argument.CostRules.{cost_rules_at}
use Rattle.wider_limits.specs.definitions.Wider.{within-older, others-stay, Widens, Meets, Larger, ThreeOrEight, RefusesLarger}
use Rattle.wider_limits.proofs.argument.ReadingWider.{read-wider, cost-read-wider}
use Rattle.wider_limits.proofs.argument.JudgingWider.{accepted-wider, plain-widens, cost-widens}
use Rattle.wider_limits.proofs.argument.CallsWider.{outcome-wider, alike-wider, told-accepted, outcome-stays, fetch-wider, join-wider}
use Rattle.wider_limits.proofs.argument.MeetsLaws.{whole_meets, cost-meets, three-or-eight, reads-exactly, call-refuses, first-refuses, second-refuses, fetch-refuses}

-- what an older part judges pairs and cost pairs by
abbrev pub older_pairs : JudgedBy
older_pairs = plain_pairs_at older_limits

abbrev pub older_cost_pairs : JudgedBy
older_cost_pairs = cost_pairs_at older_limits

older-widens : Widens older_pairs stored_pairs
older-widens = plain-widens older_limits limits within-older

older-cost-widens : Widens older_cost_pairs stored_costs
older-cost-widens = cost-widens older_limits limits within-older

pub older-fit : FitsWidths older_limits
older-fit = omega arith

pub older-count : older_limits.refutations < 65536
older-count = omega arith

-- 'Stored files are read as they are'
pub older-read-stays : (s : List ℕ) (M : Model) (end : ℕ) → read_whole older_limits s ≡ model M end → read_whole limits s ≡ model M end
older-read-stays = read-wider older_limits limits within-older

pub older-cost-read-stays : (s : List ℕ) (M : Model) (end : ℕ) → read_costs older_limits s ≡ model M end → read_costs limits s ≡ model M end
older-cost-read-stays = cost-read-wider older_limits limits within-older

-- 'a pair accepted before is accepted with the same blocks', without costs and with them
pub older-accepted-stays : (M C blocks : List ℕ) → AcceptedBy older_pairs M C blocks → AcceptedBy stored_pairs M C blocks
older-accepted-stays = accepted-wider older_pairs stored_pairs older-widens

pub older-cost-accepted-stays : (M C blocks : List ℕ) → AcceptedBy older_cost_pairs M C blocks → AcceptedBy stored_costs M C blocks
older-cost-accepted-stays = accepted-wider older_cost_pairs stored_costs older-cost-widens

-- every call that judges an accepted pair answers the same, and leaves the same in the lent buffers
pub older-outcome-stays : (M C blocks : List ℕ) → AcceptedBy older_pairs M C blocks → (follows : Follows) (before : List (List ℕ)) → outcome_by stored_pairs follows M C before ≡ outcome_by older_pairs follows M C before
older-outcome-stays = outcome-wider older_pairs stored_pairs older-widens

-- so too where all that is known is a number that tells of acceptance
pub older-stays : (follows : Follows) → FollowsLaws (plain_rules_at older_limits older-fit older-count) follows → (M C : List ℕ) (before : List (List ℕ)) → Accepting follows (outcome_by older_pairs follows M C before).answer.number → outcome_by stored_pairs follows M C before ≡ outcome_by older_pairs follows M C before
older-stays follows laws = outcome-stays (plain_rules_at older_limits older-fit older-count) stored_pairs older-widens follows laws

module _ (M C : List ℕ) where
  -- the blocks in the lent buffer
  pub older-blocks-stay : (before : List (List ℕ)) → (outcome_by older_pairs writes_blocks M C before).answer.number ≡ 0 → outcome_by stored_pairs writes_blocks M C before ≡ outcome_by older_pairs writes_blocks M C before
  unfolding Accepting
  older-blocks-stay before z = older-stays writes_blocks blocks-follow M C before (inl z)

  -- with costs
  pub older-cost-blocks-stay : (before : List (List ℕ)) → (outcome_by older_cost_pairs writes_blocks M C before).answer.number ≡ 0 → outcome_by stored_costs writes_blocks M C before ≡ outcome_by older_cost_pairs writes_blocks M C before
  unfolding Accepting
  older-cost-blocks-stay before z =
      outcome-stays (cost_rules_at older_limits older-fit older-count) stored_costs older-cost-widens writes_blocks blocks-follow M C before (inl z)

  -- the merged file: 0 or 23
  pub older-merged-stays : (before : List (List ℕ)) → Accepting writes_merged (outcome_by older_pairs writes_merged M C before).answer.number → outcome_by stored_pairs writes_merged M C before ≡ outcome_by older_pairs writes_merged M C before
  older-merged-stays = older-stays writes_merged (merged-follow older_limits older-fit older-count) M C

  -- the sheet: 0 or 28
  pub older-sheet-stays : (before : List (List ℕ)) → Accepting (writes_sheet plain_rule C) (outcome_by older_pairs (writes_sheet plain_rule C) M C before).answer.number → outcome_by stored_pairs (writes_sheet plain_rule C) M C before ≡ outcome_by older_pairs (writes_sheet plain_rule C) M C before
  older-sheet-stays = older-stays (writes_sheet plain_rule C) (sheet-follow older_limits older-fit older-count C) M C

  -- two states compared: 0 or 27, and yes or no
  pub older-alike-stays : (x : Named) (before : List (List ℕ)) → Accepting (tests_parts x) (outcome_by older_pairs (tests_parts x) M C before).answer.number → (outcome_by stored_pairs (tests_parts x) M C before ≡ outcome_by older_pairs (tests_parts x) M C before) × (alike_says stored_pairs x M C ≡ alike_says older_pairs x M C)
  older-alike-stays x before z =
      let a = told-accepted (plain_rules_at older_limits older-fit older-count) (tests_parts x) (parts-follow older_limits older-fit older-count x) M C before z in
      (older-outcome-stays M C a.0 a.1 (tests_parts x) before, alike-wider older_pairs stored_pairs older-widens M C a.0 a.1 x)

-- the call that fetches: 0 or 24
pub older-fetch-stays : (s : List ℕ) (state : ℕ) → ((fetch_answer older_limits s state).number ≡ 0) ⊎ ((fetch_answer older_limits s state).number ≡ 24) → fetch_answer limits s state ≡ fetch_answer older_limits s state
older-fetch-stays = fetch-wider older_limits limits within-older

-- the call that joins: 0 or 26
pub older-joined-stays : (first second buffer : List ℕ) → ((join_outcome older_limits (read_whole older_limits) first second buffer).answer.number ≡ 0) ⊎ ((join_outcome older_limits (read_whole older_limits) first second buffer).answer.number ≡ 26) → join_outcome limits (read_whole limits) first second buffer ≡ join_outcome older_limits (read_whole older_limits) first second buffer
older-joined-stays = join-wider older_limits limits within-older

-- 'An older part meets a larger sound model with 3 or 8': 3 at 0, or 8 at the transition with which the entries pass 1,024, or it is read
pub older-meets : (file : List ℕ) (M : Model) → FileOf limits file M → Meets older_limits (read_whole older_limits) file M
older-meets = whole_meets older_limits limits within-older others-stay limits-fit

pub older-cost-meets : (file : List ℕ) (M : Model) → CostFileOf limits file M → Meets older_limits (read_costs older_limits) file M
older-cost-meets = cost-meets older_limits limits within-older others-stay limits-fit

pub older-refuses-larger : (file : List ℕ) (M : Model) → FileOf limits file M → Larger older_limits M → ThreeOrEight (read_whole older_limits) file
older-refuses-larger file M f = three-or-eight older_limits (read_whole older_limits) file M (older-meets file M f)

-- so every call answers 3 or 8 there, and leaves the lent buffers as they were
module _ (file : List ℕ) (M : Model) (f : FileOf limits file M) (large : Larger older_limits M) where
  met : ThreeOrEight (read_whole older_limits) file
  met = older-refuses-larger file M f large

  -- those that judge without costs
  pub older-calls-refuse-larger : (follows : Follows) (C : List ℕ) (before : List (List ℕ)) → RefusesLarger 1 file before (outcome_by older_pairs follows file C before)
  older-calls-refuse-larger = call-refuses (read_whole older_limits) file met older_limits plain_rule

  -- the one that fetches
  pub older-fetch-refuses-larger : (state : ℕ) → RefusesLarger 1 file [] (fetch_outcome older_limits file state)
  older-fetch-refuses-larger = fetch-refuses older_limits file met

  -- the one that joins: as its first model, whatever the second is, and as its second where the first is read
  pub older-join-refuses-first : (second buffer : List ℕ) → RefusesLarger 1 file (buffer ∷ []) (join_outcome older_limits (read_whole older_limits) file second buffer)
  older-join-refuses-first second buffer = first-refuses (read_whole older_limits) file met _ second (buffer ∷ [])

  pub older-join-refuses-second : (first buffer : List ℕ) {N : Model} {end : ℕ} → read_whole older_limits first ≡ model N end → RefusesLarger 3 file (buffer ∷ []) (join_outcome older_limits (read_whole older_limits) first file buffer)
  older-join-refuses-second first buffer e = second-refuses (read_whole older_limits) file met _ first (buffer ∷ []) e

-- and so of cost models, in the call that judges them
pub older-cost-refuses-larger : (file : List ℕ) (M : Model) → CostFileOf limits file M → Larger older_limits M → ThreeOrEight (read_costs older_limits) file
older-cost-refuses-larger file M f = three-or-eight older_limits (read_costs older_limits) file M (older-cost-meets file M f)

pub older-cost-calls-refuse-larger : (file : List ℕ) (M : Model) → CostFileOf limits file M → Larger older_limits M → (follows : Follows) (C : List ℕ) (before : List (List ℕ)) → RefusesLarger 1 file before (outcome_by older_cost_pairs follows file C before)
older-cost-calls-refuse-larger file M f large =
    call-refuses (read_costs older_limits) file (older-cost-refuses-larger file M f large) older_limits (cost_file (costs_in file))

-- and it reads the others
pub older-reads-exactly : (file : List ℕ) (M : Model) → FileOf limits file M → (read_whole older_limits file ≡ model M (length file)) ↔ ((length M.labels ≤ 64) × (entry_count M ≤ 1024))
older-reads-exactly file M f = reads-exactly older_limits (read_whole older_limits) file M (older-meets file M f)
