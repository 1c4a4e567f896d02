-- What the call that compares two states answers and says, and that it keeps its demands.
use Rattle.std.specs.Prelude.{ℕ, ◌+◌, ◌≤◌, ◌<◌, ◌≡◌, ◌↔◌, ◌⊎◌, get_or}
use Rattle.std.proofs.Math.Path.{refl, sym, ap}
use Rattle.std.proofs.Common.{◌∙◌, ap₂, subst, inl, inr, arith}
use Rattle.std.proofs.Math.Logic.{⊎_elim}
use mathlib.Core.List.{List, [], ◌∷◌}
use Rattle.std.proofs.Math.ListN.{length}
use Rattle.bisimulation.specs.definitions.Choice.{if_less, if_same, if_true}
use Rattle.bisimulation.proofs.argument.ChoiceLaws.{less, not_less, either_less, same, not_same, past_less, kept_less, kept_same}
use Rattle.bisimulation.specs.definitions.Largest.{Bisimilar, BisimilarByPairs}
use Rattle.bisimulation.specs.definitions.StepRule.{Met}
use Rattle.rules.specs.definitions.Limits.{Limits, current}
use Rattle.rules.specs.definitions.Model.{Model, automaton_of}
use Rattle.rules.specs.definitions.Reading.{Reading, model, no_model, read_whole}
use Rattle.rules.specs.definitions.SoundModel.{Bytes, FitsWidths}
use Rattle.rules.specs.definitions.Certificate.{same_block}
use Rattle.rules.specs.definitions.Judging.{Judgement, accepted, refused_in, judge}
use Rattle.rules.specs.definitions.Answers as rules
use Rattle.rules.specs.definitions.Answers.{Outcome, answer_without_place, unwritten}
use Rattle.rules.specs.definitions.Accepted.{Among, here, Kept, FileOf}
use Rattle.rules.specs.definitions.PlainSays.{plain_says}
use Rattle.rules.specs.definitions.JudgedBy.{plain_pairs}
use Rattle.rules.proofs.argument.SoundModelLaws.{current-fit, sound-bytes}
use Rattle.rules.specs.definitions.Demand3.{InOneBlock, HoldsModel}
use Rattle.rules.specs.definitions.Demands.{outcome_by, Accepting}
use Rattle.rules.proofs.argument.AnyRule.{PairRules, pairs_of}
use Rattle.rules.proofs.argument.AnswerLaws.{left-unwritten}
use Rattle.rules.proofs.argument.FaultLaws.{told-fault}
use Rattle.rules.proofs.argument.PairOutcome.{FollowsLaws}
use Rattle.rules.proofs.argument.JudgedFirst.{Roomy, Refused, Found, refused-or-found, found-outcome}
use Rattle.rules.proofs.argument.AcceptedExactly.{accepted-exactly}
use Rattle.rules.proofs.argument.Demand3Holds.{one-model, holds_read, facts-of, largest-block-pairs}
use Rattle.rules.proofs.argument.DemandsHold.{one-late, plain_other, late-numbered}
use Rattle.rules.proofs.argument.PlainRules.{plain_rules_at, plain_rules}
use Rattle.joined.specs.definitions.Joined.{joined, joined_file}
use Rattle.joined.specs.definitions.JoinAnswer.{JoinDemands}
use Rattle.joined.proofs.argument.JoinedLaws.{joined-states}
use Rattle.joined.specs.definitions.AlikeAnswer.{Named, InParts, parts_number, tests_parts, alike_judged, alike_read, alike_says, AlikeNumber, SaysAlike}

-- 27 or 0
pub parts-number : (n : ℕ) (x : Named) → (parts_number n x ≡ 0) ⊎ (parts_number n x ≡ 27)
unfolding parts_number
parts-number n x = or _ _ (inr refl) (or _ _ (or _ _ (inr refl) (or _ _ (inl refl) (inr refl))) (inr refl))
  where
    or : (a b : ℕ) {f g : ℕ} → (f ≡ 0) ⊎ (f ≡ 27) → (g ≡ 0) ⊎ (g ≡ 27) → (if_less a b f g ≡ 0) ⊎ (if_less a b f g ≡ 27)
    or a b p q = either_less (λ (f : ℕ). (f ≡ 0) ⊎ (f ≡ 27)) a b p q

-- 0 exactly where each state is in its part
pub parts-exactly : (n : ℕ) (x : Named) → (parts_number n x ≡ 0) ↔ InParts n x
unfolding parts_number
parts-exactly n x = (
  λ z.
      let some : ◌≡◌ {A = ℕ} 0 27 → ⊥ = λ w. omega (arith, w) in
      let a = past_less 27 _ n x.first_count some (sym z) in
      let b = kept_less _ 27 x.first_state x.first_count some a.1 in
      let c = past_less 27 _ x.second_state x.first_count some b.1 in
      let d = kept_less _ 27 x.second_state n some c.1 in
      record { count = a.0; first = b.0; second = c.0; inside = d.0 },
  λ p. sym (not_less _ p.count (less _ p.first (not_less _ p.second (less _ p.inside refl)))),
)

-- where 27 does not refuse, the states are the model's
pub parts-named : (n : ℕ) (x : Named) → parts_number n x ≡ 0 → (x.first_state < n) × (x.second_state < n)
parts-named n x z = let p = (parts-exactly n x).0 z in (omega (arith, p.count, p.first), p.inside)

-- what follows acceptance
pub parts-follow : (L : Limits) (widths : FitsWidths L) (few : L.refutations < 65536) (x : Named) → FollowsLaws (plain_rules_at L widths few) (tests_parts x)
unfolding unwritten answer_without_place Accepting
parts-follow L widths few x =
    record {
      numbered = λ N blocks before. ⊎_elim inl (λ z. inr (subst (λ (k : ℕ). Among k (27 ∷ [])) (sym z) here)) (parts-number (length N.labels) x);
      told = λ N blocks before. told-fault _ (⊎_elim (λ z. omega (arith, z)) (λ z. omega (arith, z)) (parts-number (length N.labels) x));
      unwritten = λ N blocks before n. left-unwritten (answer_without_place (parts_number (length N.labels) x)) before;
      late = λ k h n z. plain_other L widths few 27 (omega arith) (λ w. omega (arith, w)) k h (one-late z);
      not_ten = λ z. omega (arith, one-late z);
    }

pub alike-numbered : (x : Named) (M C : List ℕ) → AlikeNumber (outcome_by (pairs_of plain_rules) (tests_parts x) M C []).answer.number
alike-numbered x M C = late-numbered M C [] (tests_parts x) (parts-follow plain_rules.limits plain_rules.widths plain_rules.refutations x) (λ N. refl)

module _ (by : PairRules) (M C : List ℕ) where
  -- no buffer is lent
  roomy : (x : Named) → Roomy by M C (tests_parts x) []
  roomy x N end e = omega arith

  -- no is said of a pair that is refused
  no-said : (x : Named) → Refused by M C → 0 ≡ alike_says (pairs_of by) x M C
  unfolding alike_says alike_read alike_judged
  no-said x r = go (by.models.read M) (judge by.limits by.models.read (by.rule M).file M C) refl
    where
      go : (a : Reading) (j : Judgement) → judge by.limits by.models.read (by.rule M).file M C ≡ j → 0 ≡ alike_read x a j
      go (model N end) (accepted blocks) e = absurd (r.unaccepted blocks e)
      go (model N end) (refused_in f file place) e = refl
      go (no_model f place) j e = refl

  -- what the call answers and says of an accepted certificate
  module _ (x : Named) (a : Found by M C) where
    abbrev parts : ℕ
    parts = parts_number (length a.N.labels) x

    pub found-parts : unwritten (answer_without_place parts) [] ≡ outcome_by (pairs_of by) (tests_parts x) M C []
    found-parts = found-outcome by M C (tests_parts x) [] (roomy x) a

    found-answer : answer_without_place parts ≡ (outcome_by (pairs_of by) (tests_parts x) M C []).answer
    unfolding unwritten
    found-answer = ap (λ (o : Outcome). o.answer) found-parts

    found-says : if_same parts 0 (if_true (same_block a.blocks x.first_state x.second_state) 1 0) 0 ≡ alike_says (pairs_of by) x M C
    unfolding alike_says alike_read alike_judged
    found-says = sym (ap₂ (alike_read x) a.reads a.judged)

    pub found-parted : (parts ≡ 0 → ⊥) → 0 ≡ alike_says (pairs_of by) x M C
    found-parted n = not_same _ n refl ∙ found-says

    pub found-said : parts ≡ 0 → if_same (get_or a.blocks x.first_state 0) (get_or a.blocks x.second_state 0) 1 0 ≡ alike_says (pairs_of by) x M C
    unfolding same_block if_same if_true
    found-said z = same _ z refl ∙ found-says

  -- refused: no is said
  pub alike-refused : (x : Named) → ((outcome_by (pairs_of by) (tests_parts x) M C []).answer.number ≡ 0 → ⊥) → 0 ≡ alike_says (pairs_of by) x M C
  unfolding answer_without_place
  alike-refused x n =
      ⊎_elim (λ r. no-said x r) (λ a. found-parted x a (λ z. n (ap (λ (y : rules.Answer). y.number) (sym (found-answer x a)) ∙ z))) (refused-or-found by M C)

  module _ (b : Bytes M) (c : Bytes C) (x : Named) where
    -- said of an accepted certificate where 27 does not refuse: whether the two states share a block
    shares : (a : Found by M C) → parts_number (length a.N.labels) x ≡ 0 → (alike_says (pairs_of by) x M C ≡ 1) ↔ InOneBlock a.blocks x.first_state x.second_state
    shares a z =
        let named = parts-named (length a.N.labels) x z in
        let whole = (facts-of by M C a.blocks b c (record { answers = a.judged }) a.N (holds_read by M b a.reads)).whole in
        let said = found-said x a z in (
          λ e. record { first = omega (arith, named.0, whole); second = omega (arith, named.1, whole); same = (kept_same 1 0 _ _ (λ w. omega (arith, w)) (sym (said ∙ e))).0 },
          λ h. sym said ∙ sym (same 0 h.same refl),
        )

    -- 0 tells that the certificate is accepted and 27 does not refuse
    found_of : (outcome_by (pairs_of by) (tests_parts x) M C []).answer.number ≡ 0 → (a : Found by M C) × (parts_number (length a.N.labels) x ≡ 0)
    unfolding unwritten answer_without_place
    found_of z =
        ⊎_elim (λ r. absurd (r.some (ap (λ (o : Outcome). o.answer.number) (r.refuses (tests_parts x) [] (roomy x)) ∙ z)))
        (λ a. (a, ap (λ (y : rules.Answer). y.number) (found-answer x a) ∙ z)) (refused-or-found by M C)

    module _ (z : (outcome_by (pairs_of by) (tests_parts x) M C []).answer.number ≡ 0) (N : Model) (f : by.models.is_file M N) where
      holds : HoldsModel by.models.read M N
      holds = record { reads = (by.models.exactly M N b).1 f }

      -- 'yes is said exactly when some symmetric relation that keeps labels and meets the step rule links the two', for sets of pairs
      alike-pairs : (alike_says (pairs_of by) x M C ≡ 1) ↔ BisimilarByPairs (by.rule M).theory.met (automaton_of N) x.first_state x.second_state
      alike-pairs =
          let a = (found_of z).0 in
          let s = shares a (found_of z).1 in
          let l = largest-block-pairs by M C a.blocks b c (record { answers = a.judged }) in
          let e = subst (λ (J : Model). InOneBlock a.blocks x.first_state x.second_state ↔ BisimilarByPairs (by.rule M).theory.met (automaton_of J) x.first_state x.second_state) (one-model by M l.M N l.holds holds) (l.largest.exactly x.first_state x.second_state) in
          (λ h. e.0 (s.0 h), λ h. s.1 (e.1 h))

      -- and for relations of any kind
      pub alike-bisimilar : (alike_says (pairs_of by) x M C ≡ 1) ↔ Bisimilar (by.rule M).theory.met (automaton_of N) x.first_state x.second_state
      alike-bisimilar =
          let a = (found_of z).0 in
          let s = shares a (found_of z).1 in
          let e = (facts-of by M C a.blocks b c (record { answers = a.judged }) N holds).largest.exactly x.first_state x.second_state in
          (λ h. e.0 (s.0 h), λ h. s.1 (e.1 h))

    -- what the call says is what the request asks
    pub says-alike : (number : ℕ) → number ≡ (outcome_by (pairs_of by) (tests_parts x) M C []).answer.number → SaysAlike (pairs_of by) x M C number (alike_says (pairs_of by) x M C)
    unfolding answer_without_place
    says-alike number e =
        record {
          says = refl;
          parted = λ N blocks k.
              let a = (accepted-exactly by M C blocks b c).1 (record { M = N; file = k.file; kept = k.kept }) in
              let f = found-answer x (record { N = N; end = length M; reads = (by.models.exactly M N b).1 k.file; blocks = blocks; judged = a.answers }) in
              let q = e ∙ ap (λ (y : rules.Answer). y.number) (sym f) in
              (λ z. (parts-exactly (length N.labels) x).0 (sym q ∙ z), λ p. q ∙ (parts-exactly (length N.labels) x).1 p);
          refused = λ n. sym (alike-refused x (λ z. n (e ∙ z)));
          exactly = λ z N f. alike-pairs (sym e ∙ z) N f;
        }

-- two designs in one question: where joining two models answers 0 and a certificate is accepted for the file that it wrote, a state of the
-- first and one of the second are in their parts, and yes is said exactly when they are bisimilar in the joined model
module _ (first second before after : List ℕ) (joins : JoinDemands current (read_whole current) (FileOf current) first second before after 0) (M N : Model) (f : FileOf current first M) (g : FileOf current second N) (C blocks : List ℕ) (c : Bytes C) (kept : Kept current plain_says 0x4354 (automaton_of (joined M N)) C blocks) (s t : ℕ) (in_first : s < length M.labels) (in_second : t < length N.labels) where
  abbrev two : Named
  two = record { first_count = length M.labels; first_state = s; second_state = length M.labels + t }

  abbrev answer : rules.Answer
  answer = (outcome_by plain_pairs (tests_parts two) (joined_file M N) C []).answer

  joined_bytes : Bytes (joined_file M N)
  joined_bytes = sound-bytes current (joined M N) current-fit (joins.holds refl M N f g).sound

  said : SaysAlike plain_pairs two (joined_file M N) C answer.number (alike_says plain_pairs two (joined_file M N) C)
  said = says-alike plain_rules (joined_file M N) C joined_bytes c two answer.number refl

  pub designs-parted : answer.number ≡ 0
  designs-parted =
      (said.parted (joined M N) blocks (record { file = joins.holds refl M N f g; kept = kept })).1
      (record { count = omega (arith, joined-states M N); first = in_first; second = omega arith; inside = omega (arith, joined-states M N) })

  pub designs-alike : (alike_says plain_pairs two (joined_file M N) C ≡ 1) ↔ Bisimilar Met (automaton_of (joined M N)) s (length M.labels + t)
  designs-alike = alike-bisimilar plain_rules (joined_file M N) C joined_bytes c two designs-parted (joined M N) (joins.holds refl M N f g)
