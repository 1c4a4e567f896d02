-- Laws of a call that judges, whatever a pair of files is judged by and whatever follows acceptance: what it answers in each case, and
-- what its number tells.
use Rattle.std.specs.Prelude.{ℕ, ◌≤◌, ◌<◌, ◌≡◌, ◌⊎◌, List, [], ◌∷◌, length}
use Rattle.std.proofs.Math.Path.{refl, sym, ap, subst}
use Rattle.std.proofs.Common.{◌∙◌, arith}
use Rattle.std.proofs.Math.Logic.{⊎_elim}
use Rattle.std.proofs.Math.Decide.{dec_lt}
use Rattle.bisimulation.proofs.argument.ChoiceLaws.{less, not_less}
use Rattle.rules.specs.definitions.Limits.{Limits}
use Rattle.rules.specs.definitions.Model.{Model, automaton_of}
use Rattle.rules.specs.definitions.Faults.{Fault, fault}
use Rattle.rules.specs.definitions.Bytes.{two_at}
use Rattle.rules.proofs.argument.FaultLaws.{Told, told-fault}
use Rattle.rules.proofs.argument.JudgingLaws.{other-mark}
use Rattle.rules.specs.definitions.Reading.{Reading, model, no_model}
use Rattle.rules.specs.definitions.Accepted.{Among}
use Rattle.rules.specs.definitions.Certificate.{FileRule}
use Rattle.rules.specs.definitions.Judging.{Judgement, accepted, refused_in, Reader, judge_certificate, judge_reading, judge}
use Rattle.rules.proofs.argument.AnyRule.{PairRules, RefusalOf, pairs_of}
use Rattle.rules.specs.definitions.Answers.{Outcome, left_in, refusal_in, answer_without_place, file_of, judgement_answer, unwritten, Follows, first_lent, judged_outcome, read_outcome, pair_outcome}
use Rattle.rules.specs.definitions.Demands.{outcome_by, Accepting}
use Rattle.rules.proofs.argument.AnswerLaws.{fault_in, left-unwritten}
use Rattle.rules.proofs.argument.Numbers.{RefusedWith, JudgementNumber, certificate-numbered, unread-number}

module _ (L : Limits) (read : Reader) (file : FileRule) (follows : Follows) (M C : List ℕ) (before : List (List ℕ)) where
  by-reading : {r : Reading} → read M ≡ r → pair_outcome L read file follows M C before ≡ read_outcome follows M C before r (judge_reading L file r C)
  unfolding pair_outcome judge
  by-reading e = ap (λ (r : Reading). read_outcome follows M C before r (judge_reading L file r C)) e

  -- the model is refused
  pub outcome-refused : (f : Fault) (place : ℕ) → read M ≡ no_model f place → unwritten (refusal_in f 1 place (length M)) before ≡ pair_outcome L read file follows M C before
  unfolding read_outcome
  outcome-refused f place e = sym (by-reading e)

  module _ {N : Model} {end : ℕ} (e : read M ≡ model N end) where
    -- 10
    pub outcome-short : length (first_lent before) < follows.block_room N → unwritten (answer_without_place 10) before ≡ pair_outcome L read file follows M C before
    unfolding read_outcome
    outcome-short h = less _ h refl ∙ sym (by-reading e)

    pub outcome-judged : follows.block_room N ≤ length (first_lent before) → judged_outcome follows M C before N (judge_certificate L file (automaton_of N) C) ≡ pair_outcome L read file follows M C before
    unfolding read_outcome judge_reading
    outcome-judged h = not_less _ h refl ∙ sym (by-reading e)

    -- the certificate is refused
    pub outcome-unaccepted : (f : Fault) (place : ℕ) → follows.block_room N ≤ length (first_lent before) → refused_in f 2 place ≡ judge_certificate L file (automaton_of N) C → unwritten (refusal_in f 2 place (length C)) before ≡ pair_outcome L read file follows M C before
    unfolding judged_outcome judgement_answer file_of
    outcome-unaccepted f place h j = ap (judged_outcome follows M C before N) j ∙ outcome-judged h

    -- its mark is not the rule's
    pub outcome-other-mark : follows.block_room N ≤ length (first_lent before) → 2 ≤ length C → (two_at C 0 ≡ file.mark → ⊥) → unwritten (refusal_in (fault 12) 2 0 (length C)) before ≡ pair_outcome L read file follows M C before
    outcome-other-mark h two other = outcome-unaccepted (fault 12) 0 h (other-mark L file (automaton_of N) C two other)

    -- it is accepted
    pub outcome-accepted : (blocks : List ℕ) → follows.block_room N ≤ length (first_lent before) → accepted blocks ≡ judge_certificate L file (automaton_of N) C → follows.outcome N blocks before ≡ pair_outcome L read file follows M C before
    unfolding judged_outcome
    outcome-accepted blocks h j = ap (judged_outcome follows M C before N) j ∙ outcome-judged h

-- the model is read and the certificate accepted
pub record AcceptedModel (L : Limits) (read : Reader) (file : FileRule) (M C : List ℕ) : Type 0 where
  pub N : Model
  pub end : ℕ
  pub reads : read M ≡ model N end
  pub blocks : List ℕ
  pub judged : judge L read file M C ≡ accepted blocks

-- what follows acceptance answers 0 and the late numbers alone, tells as K2 says, and writes on 0 alone; no late number is another refusal of the call
pub record FollowsLaws (by : PairRules) (follows : Follows) : Type 0 where
  pub numbered : (N : Model) (blocks : List ℕ) (before : List (List ℕ)) → Accepting follows (follows.outcome N blocks before).answer.number
  pub told : (N : Model) (blocks : List ℕ) (before : List (List ℕ)) → Told (fault_in (follows.outcome N blocks before).answer)
  pub unwritten : (N : Model) (blocks : List ℕ) (before : List (List ℕ)) → ((follows.outcome N blocks before).answer.number ≡ 0 → ⊥) → left_in (follows.outcome N blocks before) ≡ before
  pub late : (k : ℕ) → RefusalOf by k → (k ≡ 0 → ⊥) → Among k follows.late → ⊥
  pub not_ten : Among 10 follows.late → ⊥

module _ (by : PairRules) (follows : Follows) (laws : FollowsLaws by follows) (M C : List ℕ) (before : List (List ℕ)) where
  abbrev number_of : Outcome → ℕ
  number_of o = o.answer.number

  -- the cases of an outcome: judging refuses, the model or the certificate, 10, or acceptance with what follows
  pub outcome-cases {κ} : (P : Outcome → Type κ)
      → ((f : Fault) (file place : ℕ) → RefusedWith by f → judge by.limits by.models.read (by.rule M).file M C ≡ refused_in f file place → P (unwritten (refusal_in f file place (length (file_of (M ∷ C ∷ []) file))) before))
      → ((N : Model) (end : ℕ) → by.models.read M ≡ model N end → length (first_lent before) < follows.block_room N → P (unwritten (answer_without_place 10) before))
      → ((N : Model) (end : ℕ) (blocks : List ℕ) → by.models.read M ≡ model N end → follows.block_room N ≤ length (first_lent before) → accepted blocks ≡ judge_certificate by.limits (by.rule M).file (automaton_of N) C → P (follows.outcome N blocks before))
      → P (outcome_by (pairs_of by) follows M C before)
  unfolding file_of judge judge_reading
  outcome-cases P refuses short follow = by-model (by.models.read M) refl
    where
      judged : {r : Reading} → by.models.read M ≡ r → judge by.limits by.models.read (by.rule M).file M C ≡ judge_reading by.limits (by.rule M).file r C
      judged e = ap (λ (x : Reading). judge_reading by.limits (by.rule M).file x C) e

      by-judgement : (N : Model) (end : ℕ) → by.models.read M ≡ model N end → follows.block_room N ≤ length (first_lent before) → (j : Judgement) → j ≡ judge_certificate by.limits (by.rule M).file (automaton_of N) C → JudgementNumber by j → P (judged_outcome follows M C before N j)
      by-judgement N end e room (accepted blocks) q h = unfold judged_outcome in follow N end blocks e room q
      by-judgement N end e room (refused_in f file place) q h = unfold judged_outcome judgement_answer in refuses f file place h (judged e ∙ sym q)

      by-room : (N : Model) (end : ℕ) → by.models.read M ≡ model N end → Dec (length (first_lent before) < follows.block_room N) → P (outcome_by (pairs_of by) follows M C before)
      by-room N end e (yes l) = subst P (outcome-short by.limits by.models.read (by.rule M).file follows M C before e l) (short N end e l)
      by-room N end e (no l) =
          subst P (outcome-judged by.limits by.models.read (by.rule M).file follows M C before e (omega arith))
          (by-judgement N end e (omega arith) _ refl (certificate-numbered by M (automaton_of N) C))

      by-model : (r : Reading) → by.models.read M ≡ r → P (outcome_by (pairs_of by) follows M C before)
      by-model (model N end) e = by-room N end e (dec_lt (length (first_lent before)) (follows.block_room N))
      by-model (no_model f place) e =
          subst P (outcome-refused by.limits by.models.read (by.rule M).file follows M C before f place e) (refuses f 1 place (unread-number by M f place e) (judged e))

  -- its number: 0, a late one, a refusal of judging, or 10 where a block buffer is lent
  pub outcome-number : (P : ℕ → Type 0) → P 0 → ((k : ℕ) → Among k follows.late → P k) → ((k : ℕ) → RefusalOf by k → P k) → ((N : Model) → length (first_lent before) < follows.block_room N → P 10) → P (number_of (outcome_by (pairs_of by) follows M C before))
  unfolding unwritten refusal_in answer_without_place Accepting
  outcome-number P zero late refusal ten =
      outcome-cases (λ o. P (number_of o))
      (λ f file place h j. refusal f.number h.number)
      (λ N end e h. ten N h)
      (λ N end blocks e room q. ⊎_elim (λ z. subst P (sym z) zero) (λ z. late _ z) (laws.numbered N blocks before))

  -- what its state and remainder tell
  pub outcome-told : Told (fault_in (outcome_by (pairs_of by) follows M C before).answer)
  unfolding unwritten refusal_in answer_without_place
  outcome-told =
      outcome-cases (λ o. Told (fault_in o.answer))
      (λ f file place h j. h.told)
      (λ N end e h. told-fault 10 (omega arith))
      (λ N end blocks e room q. laws.told N blocks before)

  -- a refusal leaves the buffers as they were
  pub outcome-unwritten : (number_of (outcome_by (pairs_of by) follows M C before) ≡ 0 → ⊥) → left_in (outcome_by (pairs_of by) follows M C before) ≡ before
  outcome-unwritten =
      outcome-cases (λ o. (number_of o ≡ 0 → ⊥) → left_in o ≡ before)
      (λ f file place h j n. left-unwritten _ before)
      (λ N end e h n. left-unwritten _ before)
      (λ N end blocks e room q n. laws.unwritten N blocks before n)

  -- an accepted pair with room: its outcome is what follows
  pub record Followed : Type 0 where
    pub found : AcceptedModel by.limits by.models.read (by.rule M).file M C
    pub room : follows.block_room found.N ≤ length (first_lent before)

  -- where its number tells of acceptance
  pub outcome-found : Accepting follows (number_of (outcome_by (pairs_of by) follows M C before)) → Followed
  unfolding unwritten refusal_in answer_without_place Accepting judge judge_reading
  outcome-found =
      outcome-cases (λ o. (number_of o ≡ 0) ⊎ Among (number_of o) follows.late → Followed)
      (λ f file place h j z. absurd (⊎_elim (λ x. h.some x) (λ x. laws.late f.number h.number h.some x) z))
      (λ N end e h z. absurd (⊎_elim (λ x. omega (arith, x)) (λ x. laws.not_ten x) z))
      (λ N end blocks e room q z.
      record {
        found = record { N = N; end = end; reads = e; blocks = blocks; judged = ap (λ (r : Reading). judge_reading by.limits (by.rule M).file r C) e ∙ sym q };
        room = room;
      })

  -- and an accepted pair with room has that outcome
  pub outcome-followed : {N : Model} {end : ℕ} (blocks : List ℕ) → by.models.read M ≡ model N end → judge by.limits by.models.read (by.rule M).file M C ≡ accepted blocks → follows.block_room N ≤ length (first_lent before) → follows.outcome N blocks before ≡ outcome_by (pairs_of by) follows M C before
  unfolding judge judge_reading
  outcome-followed blocks e q room =
      outcome-accepted by.limits by.models.read (by.rule M).file follows M C before e blocks room (sym q ∙ ap (λ (r : Reading). judge_reading by.limits (by.rule M).file r C) e)
