-- Document 02, K6: demands 2 and 3 of cost pairs, and that accepted cost blocks lie inside the accepted blocks without costs.
use Rattle.std.specs.Prelude.{ℕ, ◌<◌, ◌↔◌, List}
use Rattle.std.proofs.Common.{sym, ap, subst, arith}
use Rattle.rules.specs.definitions.Limits.{any_terms, Limits, limits, with_terms, current}
use Rattle.rules.specs.definitions.Model.{Model, automaton_of}
use Rattle.rules.specs.definitions.SoundModel.{Bytes, FitsWidths}
use Rattle.rules.proofs.argument.SoundModelLaws.{limits-fit, current-fit, with-fits, sound-any, sound-bytes}
use Rattle.rules.specs.definitions.Reading.{read_whole}
use Rattle.rules.proofs.argument.ReadBack.{read-back-whole}
use Rattle.rules.specs.definitions.Accepted.{Kept}
use Rattle.rules.specs.definitions.Demand3.{HoldsModel, Demand3}
use Rattle.rules.specs.definitions.JudgedBy.{AcceptedBy}
use Rattle.rules.proofs.argument.AnyRule.{PairRules}
use Rattle.rules.proofs.argument.AcceptedExactly.{AcceptedAs, accepted-exactly}
use Rattle.rules.proofs.argument.Demand3Holds.{demand3, facts-of, holds}
use Rattle.rules.proofs.argument.PlainRules.{plain_rules_at}
use Rattle.costs.proofs.argument.Inside.{costs_inside}
use Rattle.cost_files.specs.definitions.CostModel.{CostFileOf, costs_in, without_costs}
use Rattle.cost_files.specs.definitions.CostFile.{cost_file}
use Rattle.cost_files.specs.definitions.CostSays.{cost_says}
use Rattle.cost_files.specs.definitions.CostPairs.{HoldOneWithCosts, cost_pairs, KeptWithCosts, CostBlocksInside}
use Rattle.cost_files.proofs.argument.CostCertificates.{CostNumber, cost_certificates}
use Rattle.cost_files.proofs.argument.CostReadingLaws.{costs-in, without-costs, cost_files}

-- cost models, each with the step rule of its own costs, within given limits
abbrev pub cost_rules_at : (L : Limits) → FitsWidths L → L.refutations < 65536 → PairRules
cost_rules_at L widths few =
    record {
      limits = L;
      widths = widths;
      refutations = few;
      models = cost_files L widths;
      spelled = cost_files (with_terms any_terms L) (with-fits any_terms L widths);
      among = λ bytes M f. record { costs = f.costs; sound = sound-any L M f.sound; right = f.right; encoded = f.encoded };
      numbers = CostNumber;
      rule = λ model. cost_certificates (costs_in model);
      one_automaton = HoldOneWithCosts;
      hold_one = λ model other M N one. one.automaton;
      one_rule = λ model other M N one. ap cost_certificates one.costs;
    }

-- as the calls judge them
abbrev pub cost_rules : PairRules
cost_rules = cost_rules_at current current-fit (omega arith)

-- with whatever terms
abbrev pub stored_cost_rules : PairRules
stored_cost_rules = cost_rules_at limits limits-fit (omega arith)

module _ (bytes C blocks : List ℕ) (b : Bytes bytes) (c : Bytes C) where
  as-kept : AcceptedAs cost_rules bytes C blocks → KeptWithCosts bytes C blocks
  as-kept a =
      record {
        M = a.M;
        file = a.file;
        kept = subst (λ (costs : List ℕ). Kept current (cost_says costs) (cost_file costs).mark (automaton_of a.M) C blocks) (costs-in current current-fit bytes a.M a.file) a.kept;
      }

  kept-as : KeptWithCosts bytes C blocks → AcceptedAs cost_rules bytes C blocks
  kept-as k =
      record {
        M = k.M;
        file = k.file;
        kept = subst (λ (costs : List ℕ). Kept current (cost_says costs) (cost_file costs).mark (automaton_of k.M) C blocks) (sym (costs-in current current-fit bytes k.M k.file)) k.kept;
      }

  -- demand 2: accepted exactly when the rules are kept with the model's costs
  pub cost-accepted-exactly : AcceptedBy cost_pairs bytes C blocks ↔ KeptWithCosts bytes C blocks
  cost-accepted-exactly =
      let e = accepted-exactly cost_rules bytes C blocks b c in
      (λ a. as-kept (e.0 a), λ k. e.1 (kept-as k))

-- 'What is promised of largest relations is wanted here too': demand 3
pub cost-demand3 : Demand3 cost_pairs
cost-demand3 = demand3 cost_rules

-- the bytes without the cost record hold the same model
holds-without : (L : Limits) (widths : FitsWidths L) (bytes : List ℕ) (M : Model) → CostFileOf L bytes M → Bytes (without_costs bytes) × HoldsModel (read_whole L) (without_costs bytes) M
holds-without L widths bytes M f =
    subst (λ (s : List ℕ). Bytes s × HoldsModel (read_whole L) s M) (sym (without-costs L widths bytes M f))
    (sound-bytes L M widths f.sound, record { reads = read-back-whole L M widths f.sound })

-- 'accepted cost blocks must lie inside the accepted blocks of the same model without costs'
pub cost-blocks-inside : (L : Limits) (widths : FitsWidths L) (few : L.refutations < 65536) → CostBlocksInside L
unfolding CostBlocksInside
cost-blocks-inside L widths few bytes C blocks plain_c plain_blocks b c pc a p s t w =
    let by = cost_rules_at L widths few in
    let k = (accepted-exactly by bytes C blocks b c).0 a in
    let h = holds-without L widths bytes k.M k.file in
    costs_inside (facts-of by bytes C blocks b c a k.M (holds by bytes C blocks b k)).largest
    (facts-of (plain_rules_at L widths few) (without_costs bytes) plain_c plain_blocks h.0 pc p k.M h.1).largest s t w
