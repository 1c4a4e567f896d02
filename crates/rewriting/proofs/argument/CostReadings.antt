-- Cost pairs judged with refusal 34 and without it.
use Rattle.std.specs.Prelude.{ℕ, ◌<◌, refl, ◌↔◌, List}
use Rattle.rules.specs.definitions.Limits.{Terms, any_terms, lowest_terms, Limits, with_terms}
use Rattle.rules.specs.definitions.Model.{Model}
use Rattle.rules.specs.definitions.SoundModel.{Each, Bytes, LowestTerms, FitsWidths}
use Rattle.rules.specs.definitions.JudgedBy.{AcceptedBy}
use Rattle.rules.proofs.argument.AnyRule.{PairRules}
use Rattle.rules.proofs.argument.TwoReadings.{sound-lowest, AlsoLowest, accepted-lowest, terms-fit}
use Rattle.cost_files.specs.definitions.CostModel.{CostFileOf}
use Rattle.cost_files.specs.definitions.CostPairs.{cost_pairs_at}
use Rattle.cost_files.proofs.argument.CostRules.{cost_rules_at}

module _ (L : Limits) (widths : FitsWidths L) (few : L.refutations < 65536) where
  -- cost models within the limits, in terms of either kind
  abbrev pub cost_rules_with : Terms → PairRules
  cost_rules_with terms = cost_rules_at (with_terms terms L) (terms-fit L widths few terms) few

  pub cost-also-lowest : AlsoLowest (cost_rules_with any_terms) (cost_rules_with lowest_terms)
  cost-also-lowest =
      record {
        refutations = refl;
        is_file = λ bytes M. (
          λ f.
              let s = (sound-lowest L M).0 f.sound in
              (record { costs = f.costs; sound = s.0; right = f.right; encoded = f.encoded }, s.1),
          λ f. record { costs = f.0.costs; sound = (sound-lowest L M).1 (f.0.sound, f.1); right = f.0.right; encoded = f.0.encoded },
        );
        says = λ bytes. refl;
        mark = λ bytes. refl;
      }

  -- a cost pair is accepted with 34 exactly when it is accepted without it and every transition of the model is in lowest terms
  pub cost-accepted-lowest : (bytes C blocks : List ℕ) → Bytes bytes → Bytes C → AcceptedBy (cost_pairs_at (with_terms lowest_terms L)) bytes C blocks ↔ (AcceptedBy (cost_pairs_at (with_terms any_terms L)) bytes C blocks × ((M : Model) → CostFileOf (with_terms any_terms L) bytes M → Each LowestTerms M.transitions))
  cost-accepted-lowest bytes C blocks = accepted-lowest cost-also-lowest bytes C blocks
