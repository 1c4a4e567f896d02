-- Document 02, K10: pairs judged with refusal 34 and without it. A pair is accepted with it exactly when it is accepted without it and every transition of
-- its model is in lowest terms.
use Rattle.std.specs.Prelude.{ℕ, ◌<◌, ◌≡◌, refl, ◌↔◌, List}
use Rattle.std.proofs.Common.{sym, subst, subst₂}
use Rattle.rules.specs.definitions.Limits.{Terms, any_terms, lowest_terms, Limits, with_terms}
use Rattle.rules.specs.definitions.Model.{Model, automaton_of}
use Rattle.rules.specs.definitions.SoundModel.{Each, Bytes, LowestTerms, HasTerms, SoundModel, FitsWidths}
use Rattle.rules.specs.definitions.Accepted.{RuleSays, Kept, FileOf}
use Rattle.rules.specs.definitions.Demand3.{HoldsModel}
use Rattle.rules.specs.definitions.JudgedBy.{AcceptedBy, plain_pairs_at}
use Rattle.rules.proofs.argument.MappedLists.{each_all}
use Rattle.rules.proofs.argument.AnyRule.{PairRules, pairs_of}
use Rattle.rules.proofs.argument.AcceptedExactly.{keeps-limit, accepted-exactly}
use Rattle.rules.proofs.argument.Demand3Holds.{one-model}
use Rattle.rules.proofs.argument.PlainRules.{plain_rules_at}

-- the terms of limits are one rule among the others
pub sound-terms : (a b : Terms) (L : Limits) (M : Model) → SoundModel (with_terms a L) M → Each (HasTerms b) M.transitions → SoundModel (with_terms b L) M
sound-terms a b L M s terms =
    record {
      some_state = s.some_state;
      states = s.states;
      some_action = s.some_action;
      actions = s.actions;
      count = s.count;
      labels = s.labels;
      transitions = s.transitions;
      sources = s.sources;
      entries = s.entries;
      terms = terms;
    }

-- every transition has some terms
pub any-terms : (M : Model) → Each (HasTerms any_terms) M.transitions
unfolding HasTerms
any-terms M = each_all _ (λ t. tt) M.transitions

-- a model keeps the rules with 34 exactly when it keeps them without it and every transition is in lowest terms
pub sound-lowest : (L : Limits) (M : Model) → SoundModel (with_terms lowest_terms L) M ↔ (SoundModel (with_terms any_terms L) M × Each LowestTerms M.transitions)
unfolding HasTerms
sound-lowest L M = (
  λ s. (sound-terms lowest_terms any_terms L M s (any-terms M), s.terms),
  λ s. sound-terms any_terms lowest_terms L M s.0 s.1,
)

-- two ways to judge pairs, of which the second asks for lowest terms too
pub record AlsoLowest (any low : PairRules) : Type 1 where
  pub refutations : any.limits.refutations ≡ low.limits.refutations
  pub is_file : (bytes : List ℕ) (M : Model) → low.models.is_file bytes M ↔ (any.models.is_file bytes M × Each LowestTerms M.transitions)
  pub says : (bytes : List ℕ) → (any.rule bytes).says ≡ (low.rule bytes).says
  pub mark : (bytes : List ℕ) → (any.rule bytes).file.mark ≡ (low.rule bytes).file.mark

module _ {any low : PairRules} (also : AlsoLowest any low) (bytes C blocks : List ℕ) where
  kept_low : (M : Model) → Kept any.limits (any.rule bytes).says (any.rule bytes).file.mark (automaton_of M) C blocks → Kept low.limits (low.rule bytes).says (low.rule bytes).file.mark (automaton_of M) C blocks
  kept_low M k =
      subst₂ (λ (says : RuleSays) (mark : ℕ). Kept low.limits says mark (automaton_of M) C blocks) (also.says bytes) (also.mark bytes)
      (record { certificate = k.certificate; encoded = k.encoded; keeps = keeps-limit also.refutations k.keeps; named = k.named })

  kept_any : (M : Model) → Kept low.limits (low.rule bytes).says (low.rule bytes).file.mark (automaton_of M) C blocks → Kept any.limits (any.rule bytes).says (any.rule bytes).file.mark (automaton_of M) C blocks
  kept_any M k =
      subst₂ (λ (says : RuleSays) (mark : ℕ). Kept any.limits says mark (automaton_of M) C blocks) (sym (also.says bytes)) (sym (also.mark bytes))
      (record { certificate = k.certificate; encoded = k.encoded; keeps = keeps-limit (sym also.refutations) k.keeps; named = k.named })

  -- accepted with 34 exactly when it is accepted without it and every transition of the model is in lowest terms
  pub accepted-lowest : Bytes bytes → Bytes C → AcceptedBy (pairs_of low) bytes C blocks ↔ (AcceptedBy (pairs_of any) bytes C blocks × ((M : Model) → any.models.is_file bytes M → Each LowestTerms M.transitions))
  accepted-lowest b c =
      let x = accepted-exactly any bytes C blocks b c in
      let y = accepted-exactly low bytes C blocks b c in (
        λ a.
            let k = y.0 a in
            let f = (also.is_file bytes k.M).0 k.file in
            let reads : (M : Model) → any.models.is_file bytes M → HoldsModel any.models.read bytes M = λ M file. record { reads = (any.models.exactly bytes M b).1 file } in (
              x.1 (record { M = k.M; file = f.0; kept = kept_any k.M k.kept }),
              λ M file. subst (λ (N : Model). Each LowestTerms N.transitions) (one-model any bytes k.M M (reads k.M f.0) (reads M file)) f.1,
            ),
        λ a.
            let k = x.0 a.0 in
            y.1 (record { M = k.M; file = (also.is_file bytes k.M).1 (k.file, a.1 k.M k.file); kept = kept_low k.M k.kept }),
      )

-- document 01's rules, within limits
module _ (L : Limits) (widths : FitsWidths L) (few : L.refutations < 65536) where
  -- the limits of the other fields are those without terms
  pub terms-fit : (terms : Terms) → FitsWidths (with_terms terms L)
  terms-fit terms = record { states = widths.states; actions = widths.actions; transitions = widths.transitions; label = widths.label }

  -- with terms of either kind
  abbrev pub plain_rules_with : Terms → PairRules
  plain_rules_with terms = plain_rules_at (with_terms terms L) (terms-fit terms) few

  pub plain-also-lowest : AlsoLowest (plain_rules_with any_terms) (plain_rules_with lowest_terms)
  plain-also-lowest =
      record {
        refutations = refl;
        is_file = λ bytes M. (
          λ f. let s = (sound-lowest L M).0 f.sound in (record { sound = s.0; encoded = f.encoded }, s.1),
          λ f. record { sound = (sound-lowest L M).1 (f.0.sound, f.1); encoded = f.0.encoded },
        );
        says = λ bytes. refl;
        mark = λ bytes. refl;
      }

  pub plain-accepted-lowest : (bytes C blocks : List ℕ) → Bytes bytes → Bytes C → AcceptedBy (plain_pairs_at (with_terms lowest_terms L)) bytes C blocks ↔ (AcceptedBy (plain_pairs_at (with_terms any_terms L)) bytes C blocks × ((M : Model) → FileOf (with_terms any_terms L) bytes M → Each LowestTerms M.transitions))
  plain-accepted-lowest bytes C blocks = accepted-lowest plain-also-lowest bytes C blocks
