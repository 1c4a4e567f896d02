-- Document 02, K7: what the calls answered within the older limits, they answer within the wider ones.
use Rattle.std.specs.Prelude.{ℕ, ◌<◌, ◌≡◌, ◌⊎◌, Bool, List, [], ◌∷◌}
use Rattle.std.proofs.Math.Path.{refl, sym, ap, ap₂}
use Rattle.std.proofs.Common.{◌∙◌, arith}
use Rattle.std.proofs.Math.Logic.{⊎_elim}
use Rattle.rules.specs.definitions.Limits.{Limits}
use Rattle.rules.specs.definitions.Model.{Model}
use Rattle.rules.specs.definitions.Faults.{Fault}
use Rattle.rules.specs.definitions.Reading.{Reading, model, no_model, read_whole}
use Rattle.rules.specs.definitions.JudgedBy.{JudgedBy, AcceptedBy}
use Rattle.rules.specs.definitions.Answers.{refusal_in, answer_without_place, fetch_reading, fetch_answer, unwritten, Follows, read_outcome, pair_outcome}
use Rattle.rules.specs.definitions.Demands.{outcome_by, Accepting}
use Rattle.rules.proofs.argument.ReadingLaws.{read_number}
use Rattle.rules.proofs.argument.AnyRule.{PairRules, pairs_of}
use Rattle.rules.proofs.argument.PlainRules.{ModelNumber, refusal-told}
use Rattle.rules.specs.definitions.Made.{passes_limit, made_outcome, OfTwo, readings_outcome, two_outcome}
use Rattle.rules.proofs.argument.LengthLaws.{Within as MadeWithin}
use Rattle.rules.proofs.argument.MadeLaws.{within-passes, passes-within, made-cases}
use Rattle.rules.proofs.argument.PairOutcome.{FollowsLaws, outcome-found}
use Rattle.joined.specs.definitions.Joined.{joined}
use Rattle.joined.specs.definitions.JoinAnswer.{passes_joined, join_outcome}
use Rattle.joined.specs.definitions.AlikeAnswer.{Named, alike_read, alike_says}
use Rattle.wider_limits.specs.definitions.Wider.{Within, Widens}
use Rattle.wider_limits.proofs.argument.ReadingWider.{read-wider}
use Rattle.wider_limits.proofs.argument.JudgingWider.{read_same, judged-same}

-- an accepted pair: whatever follows acceptance, the call answers the same and leaves the same in the lent buffers
module _ (older newer : JudgedBy) (wider : Widens older newer) (M C blocks : List ℕ) (a : AcceptedBy older M C blocks) where
  pub outcome-wider : (follows : Follows) (before : List (List ℕ)) → outcome_by newer follows M C before ≡ outcome_by older follows M C before
  unfolding pair_outcome
  outcome-wider follows before = ap₂ (read_outcome follows M C before) (read_same older newer wider M C blocks a) (judged-same older newer wider M C blocks a)

  -- and two states compared come to the same
  pub alike-wider : (x : Named) → alike_says newer x M C ≡ alike_says older x M C
  unfolding alike_says
  alike-wider x = ap₂ (alike_read x) (read_same older newer wider M C blocks a) (judged-same older newer wider M C blocks a)

-- where the number of a call tells of acceptance, the pair is accepted
pub told-accepted : (by : PairRules) (follows : Follows) → FollowsLaws by follows → (M C : List ℕ) (before : List (List ℕ)) → Accepting follows (outcome_by (pairs_of by) follows M C before).answer.number → (blocks : List ℕ) × AcceptedBy (pairs_of by) M C blocks
told-accepted by follows laws M C before z =
    let f = (outcome-found by follows laws M C before z).found in
    (f.blocks, record { answers = f.judged })

-- so the call answers the same
pub outcome-stays : (by : PairRules) (newer : JudgedBy) → Widens (pairs_of by) newer → (follows : Follows) → FollowsLaws by follows → (M C : List ℕ) (before : List (List ℕ)) → Accepting follows (outcome_by (pairs_of by) follows M C before).answer.number → outcome_by newer follows M C before ≡ outcome_by (pairs_of by) follows M C before
outcome-stays by newer wider follows laws M C before z =
    let a = told-accepted by follows laws M C before z in
    outcome-wider (pairs_of by) newer wider M C a.0 a.1 follows before

-- the calls that judge nothing
module _ (L W : Limits) (within : Within L W) where
  -- a file that is not read is refused with a number of reading
  unread : (s : List ℕ) (f : Fault) (place late : ℕ) → read_whole L s ≡ no_model f place → 9 < late → (late ≡ 34 → ⊥) → (f.number ≡ 0) ⊎ (f.number ≡ late) → ⊥
  unfolding ModelNumber
  unread s f place late e l other z =
      let k = (refusal-told L s f place e).1 in
      ⊎_elim (λ x. omega (arith, k, x)) (λ x. ⊎_elim (λ w. omega (arith, w, x)) (λ w. other (sym x ∙ w)) (read_number L.terms _ k.1)) z

  -- the call that fetches: 0, or 24 after the model
  pub fetch-wider : (s : List ℕ) (state : ℕ) → ((fetch_answer L s state).number ≡ 0) ⊎ ((fetch_answer L s state).number ≡ 24) → fetch_answer W s state ≡ fetch_answer L s state
  unfolding fetch_answer fetch_reading refusal_in
  fetch-wider s state z = go (read_whole L s) refl z
    where
      go : (r : Reading) → read_whole L s ≡ r → ((fetch_reading s state r).number ≡ 0) ⊎ ((fetch_reading s state r).number ≡ 24) → fetch_reading s state (read_whole W s) ≡ fetch_reading s state (read_whole L s)
      go (model M end) e z = ap (fetch_reading s state) (read-wider L W within s M end e ∙ sym e)
      go (no_model f place) e z = absurd (unread s f place 24 e (omega arith) (λ w. omega (arith, w)) z)

  -- the call that joins: 0, or 26 after the limits
  joined-wider : (J : Model) (before : List (List ℕ)) → ((made_outcome 25 26 (passes_limit L J) J before).answer.number ≡ 0) ⊎ ((made_outcome 25 26 (passes_limit L J) J before).answer.number ≡ 26) → made_outcome 25 26 (passes_limit W J) J before ≡ made_outcome 25 26 (passes_limit L J) J before
  joined-wider J before z = ap (λ (passes : Bool). made_outcome 25 26 passes J before) (sym (within-passes W J wide) ∙ within-passes L J kept)
    where
      kept : MadeWithin L J
      kept =
          made-cases 25 26 (passes_limit L J) J before (λ o. (o.answer.number ≡ 0) ⊎ (o.answer.number ≡ 26) → MadeWithin L J)
          (λ e n. absurd (unfold unwritten answer_without_place in ⊎_elim (λ x. omega (arith, x)) (λ x. omega (arith, x)) n))
          (λ e n. passes-within L J e) z

      wide : MadeWithin W J
      wide = record { states = omega (arith, kept.states, within.states); transitions = omega (arith, kept.transitions, within.transitions); entries = omega (arith, kept.entries, within.entries) }

  pub join-wider : (first second buffer : List ℕ) → ((join_outcome L (read_whole L) first second buffer).answer.number ≡ 0) ⊎ ((join_outcome L (read_whole L) first second buffer).answer.number ≡ 26) → join_outcome W (read_whole W) first second buffer ≡ join_outcome L (read_whole L) first second buffer
  unfolding two_outcome readings_outcome unwritten refusal_in
  join-wider first second buffer z = go (read_whole L first) (read_whole L second) refl refl z
    where
      of_two : Limits → OfTwo
      of_two X M N = made_outcome 25 26 (passes_joined X M N) (joined M N)

      go : (r q : Reading) → read_whole L first ≡ r → read_whole L second ≡ q → ((readings_outcome (of_two L) first second (buffer ∷ []) r q).answer.number ≡ 0) ⊎ ((readings_outcome (of_two L) first second (buffer ∷ []) r q).answer.number ≡ 26) → readings_outcome (of_two W) first second (buffer ∷ []) (read_whole W first) (read_whole W second) ≡ readings_outcome (of_two L) first second (buffer ∷ []) (read_whole L first) (read_whole L second)
      go (model M end) (model N last) e f z =
          ap₂ (readings_outcome (of_two W) first second (buffer ∷ [])) (read-wider L W within first M end e) (read-wider L W within second N last f)
          ∙ joined-wider (joined M N) (buffer ∷ []) z
          ∙ sym (ap₂ (readings_outcome (of_two L) first second (buffer ∷ [])) e f)
      go (model M end) (no_model g place) e f z = absurd (unread second g place 26 f (omega arith) (λ w. omega (arith, w)) z)
      go (no_model g place) q e f z = absurd (unread first g place 26 e (omega arith) (λ w. omega (arith, w)) z)
