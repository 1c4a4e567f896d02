-- What the call that compares two states finds, as its promise.
use Rattle.std.specs.Prelude.{ℕ, ◌+◌, ◌-◌, ◌<◌, ◌≡◌, refl, length, take, drop, get_or}
use Rattle.std.proofs.Common.{sym, ◌∙◌, subst, arith}
use Rattle.std.proofs.Math.Path.{ap}
use mathlib.Core.List.{List, [], ◌∷◌}
use Rattle.std.proofs.Math.Decide.{ℕ_discrete}
use Rattle.bisimulation.specs.definitions.Choice.{if_same}
use Rattle.rules.specs.definitions.Limits.{limits}
use Rattle.rules.specs.definitions.JudgedBy.{plain_pairs}
use Rattle.rules.specs.definitions.Reading.{model_at}
use Rattle.rules.specs.definitions.SoundModel.{Bytes}
use Rattle.rules.specs.definitions.Answers as rules
use Rattle.rules.specs.definitions.Answers.{answer_without_place, unwritten}
use Rattle.rules.specs.definitions.Demands.{outcome_by}
use Rattle.rules.proofs.argument.DemandsHold.{demands-hold}
use Rattle.rules.proofs.argument.JudgedFirst.{Found}
use Rattle.rules.proofs.argument.PlainRules.{plain_rules}
use Rattle.joined.specs.definitions.AlikeAnswer.{Named, parts_number, tests_parts, alike_says, AlikeNumber, SaysAlike}
use Rattle.joined.proofs.argument.AlikeAnswerLaws.{parts-named, parts-follow, alike-numbered, says-alike, alike-refused, found-parts, found-parted, found-said}
use Rattle.limits.specs.TermsBy.{current_terms}
use Rattle.rule_kind.specs.declared.Kind.TheVariants.{Plain}
use Rattle.answer.specs.declared.Answer.{Answer}
use Rattle.answer.specs.Answered.{OutcomeIs}
use Rattle.answer.specs.AnsweredLaws.{without-stretch, gives-unwritten}
use Rattle.judgement.specs.Verdicts.{AcceptedAt, RefusedAs, RoomFor}
use Rattle.judgement.specs.VerdictLaws.{labels-are, part-is, part-size}
use Rattle.alike.specs.declared.AlikeAnswer.{AlikeAnswer}
use Rattle.alike.specs.Alike.{Compares, AlikeAnswered}

-- where 27 does not refuse, the states have blocks
pub states-inside : (blocks : List ℕ) (x : Named) → parts_number (length blocks) x ≡ 0 → (x.first_state < length blocks) × (x.second_state < length blocks)
states-inside blocks x p = parts-named (length blocks) x p

-- no block buffer is lent
room : (x : Named) → RoomFor (tests_parts x) [] limits.states
room x N few = (λ h. absurd (omega arith), λ h. absurd (omega arith))

module _ {M C : List ℕ} (b : Bytes M) (c : Bytes C) (x : Named) where
  -- the outcome and what is said are those of the definitions
  told : (r : Answer) (said : ℕ) → OutcomeIs (outcome_by plain_pairs (tests_parts x) M C []) (M ∷ C ∷ []) [] r → said ≡ alike_says plain_pairs x M C → AlikeAnswered M C x (record { answer = r; alike = said })
  told r said o s =
      let number = ap (λ (a : rules.Answer). a.number) o.gives.answer in
      record {
        answers =
            record {
              outcome = o;
              demands = demands-hold plain_rules (tests_parts x) (parts-follow plain_rules.limits plain_rules.widths plain_rules.refutations x) M C [] [] r.number b c number o.gives.buffers AlikeNumber (subst AlikeNumber (sym number) (alike-numbered x M C));
            };
        says = subst (SaysAlike plain_pairs x M C r.number) (sym s) (says-alike plain_rules M C b c x r.number number);
      }

  pub pair-refused : {r : Answer} {said : ℕ} → RefusedAs Plain current_terms M C limits.states r → said ≡ 0 → AlikeAnswered M C x (record { answer = r; alike = said })
  pair-refused {r} {said} a e =
      let o = a.refuses (tests_parts x) [] (room x) in
      told r said o (e ∙ alike-refused plain_rules M C x (λ z. a.some (ap (λ (y : rules.Answer). y.number) o.gives.answer ∙ z)))

  module _ {n count at : ℕ} (a : AcceptedAt Plain current_terms M C limits.states n count at) where
    abbrev blocks : List ℕ
    blocks = take (at + n - at) (drop at C)

    abbrev found : Found plain_rules M C
    found = record { N = model_at M; end = a.model.end; reads = a.model.reads; blocks = take n (drop at C); judged = a.judged.answers }

    states : length (model_at M).labels ≡ length blocks
    states = labels-are a.known.known ∙ sym (part-size a)

    pub pair-compared : {r : AlikeAnswer} → Compares blocks x r → AlikeAnswered M C x r
    unfolding unwritten
    pair-compared {r} p =
        let parts = ap (λ (k : ℕ). parts_number k x) states in
        let o = without-stretch (parts_number (length blocks) x) p.answer.answer
        (gives-unwritten [] _ p.answer (ap (λ (k : ℕ). unwritten (answer_without_place k) []) (sym parts) ∙ found-parts plain_rules M C x found)) in
        told r.answer r.alike o (go (ℕ_discrete (parts_number (length blocks) x) 0))
      where
        go : Dec (parts_number (length blocks) x ≡ 0) → r.alike ≡ alike_says plain_pairs x M C
        go (yes z) =
            p.said z
            ∙ ap (λ (l : List ℕ). if_same (get_or l x.first_state 0) (get_or l x.second_state 0) 1 0) (part-is a)
            ∙ found-said plain_rules M C x found (ap (λ (k : ℕ). parts_number k x) states ∙ z)
        go (no z) = p.parted z ∙ found-parted plain_rules M C x found (λ w. z (sym (ap (λ (k : ℕ). parts_number k x) states) ∙ w))
