-- What a call that rewrites finds, as its promise.
use Rattle.std.specs.Prelude.{ℕ, ◌≤◌, ◌<◌, ◌≡◌, false, List, [], ◌∷◌, ◌++◌, length, take, drop}
use Rattle.std.proofs.Math.Path.{refl, sym, ap₂, subst}
use Rattle.std.proofs.Common.{◌∙◌, ap, arith}
use Rattle.bisimulation.proofs.argument.ChoiceLaws.{not_less, either_less, false-not}
use Rattle.rules.specs.definitions.Limits.{limits}
use Rattle.rules.specs.definitions.Model.{model_bytes}
use Rattle.rules.specs.definitions.SoundModel.{Bytes}
use Rattle.rules.specs.definitions.Faults as rules-faults
use Rattle.rules.specs.definitions.Faults.{fault}
use Rattle.rules.specs.definitions.Reading.{Reading, model, no_model, model_at}
use Rattle.rules.specs.definitions.Judging.{Judgement, accepted, refused_in, questions}
use Rattle.rules.specs.definitions.CertificateAt.{flows_place, certificate_at}
use Rattle.rules.specs.definitions.JudgedBy.{AcceptedBy}
use Rattle.rules.specs.definitions.Answers as rules
use Rattle.rules.specs.definitions.Answers.{Outcome, second_written, refusal_in, answer_without_place, file_of, unwritten, files_outcome, Follows, judged_outcome, read_outcome, pair_outcome}
use Rattle.rules.specs.definitions.Demands.{outcome_by}
use Rattle.rules.proofs.argument.SoundModelLaws.{limits-fit}
use Rattle.rules.proofs.argument.AnswerLaws.{none-second, first_short, second_short, both-fit}
use Rattle.rules.proofs.argument.AnyRule.{PairRules, pairs_of}
use Rattle.rules.proofs.argument.AcceptedExactly.{narrow-model, accepted-stands}
use Rattle.rules.proofs.argument.CertificateKept.{CertificateStands}
use Rattle.rules.proofs.argument.PlainRules.{stored_rules}
use Rattle.cost_files.specs.definitions.CostModel.{cost_model_bytes, costs_in}
use Rattle.cost_files.proofs.argument.CostRules.{stored_cost_rules}
use Rattle.rewriting.specs.definitions.Rewritten.{rewritten_model}
use Rattle.rewriting.specs.definitions.RewriteAnswer.{refuse_large, rewrites}
use Rattle.rewriting.proofs.argument.RewrittenFiles.{rewritten-certificate-length}
use Rattle.rewriting.proofs.argument.RewrittenPairs.{plain-rewritten, cost-rewritten}
use Rattle.rewriting.proofs.argument.RewriteHolds.{plain-rewrite-demands, cost-rewrite-demands}
use Rattle.limits.specs.declared.Terms.TheVariants.{Any}
use Rattle.rule_kind.specs.Kinds.{is_strong, rule_of, pairs_by}
use Rattle.rule_kind.specs.declared.Kind.{Kind}
use Rattle.rule_kind.specs.declared.Kind.TheVariants.{Plain, Costs, Strong}
use Rattle.fault.specs.Faults.{fault_of, PlacedAt}
use Rattle.fault.specs.declared.Fault.{Fault}
use Rattle.transition.specs.Known.{automaton_in, Known}
use Rattle.transition.specs.KnownLaws.{known-states, known-transitions}
use Rattle.answer.specs.declared.Answer.{Answer}
use Rattle.answer.specs.declared.PairAnswer.{PairAnswer}
use Rattle.answer.specs.Answered.{Says, OutcomeIs}
use Rattle.answer.specs.AnsweredLaws.{without-as, gives-unwritten, without-stretch, with-stretch}
use Rattle.answer.specs.TwoBuffers.{Unwritten, gives_both, second-both}
use Rattle.judgement.specs.Verdicts.{AcceptedAt, RefusedAs, RoomFor}
use Rattle.judgement.specs.VerdictLaws.{part-is, part-follows}
use Rattle.divisors.specs.Table.{HoldsDivisors}
use Rattle.rewritten_model.specs.Lowest.{lowest_file}
use Rattle.rewritten_model.specs.LowestLaws.{lowest-model, lowest-cost-file}
use Rattle.rewritten_flows.specs.Flows.{FlowsLeft, FlowsStand, TableOf, LargeAt, NoneLarge, FlowsFit, flows_file, FlowsWritten}
use Rattle.rewritten_flows.specs.FlowsLaws.{accepted-left, accepted-flows, accepted-table, accepted-fit, accepted-file}
use Rattle.rewrite.specs.Rewrite.{rewrites_by, rewrite_demands, RewriteAnswered, CanRewrite}

-- no block buffer is lent
room : (kind : Kind) (M C : List ℕ) (before : List (List ℕ)) → RoomFor (rewrites_by kind M C) before limits.states
room Plain M C before N few = (λ h. absurd (omega arith), λ h. absurd (omega arith))
room Costs M C before N few = (λ h. absurd (omega arith), λ h. absurd (omega arith))
room Strong M C before N few = (λ h. absurd (omega arith), λ h. absurd (omega arith))

-- a call that does nothing after acceptance
abbrev judges_only : Follows
judges_only = record { block_room = λ N. 0; outcome = λ N blocks before. unwritten (answer_without_place 0) before; late = [] }

only-room : (before : List (List ℕ)) → RoomFor judges_only before limits.states
only-room before N few = (λ h. absurd (omega arith), λ h. absurd (omega arith))

-- what it refuses is refused whatever would follow, and nothing is written
unaccepted : (follows : Follows) (M C : List ℕ) (before : List (List ℕ)) (P : Outcome → Type 0) → ((a : rules.Answer) → P (unwritten a before)) → (r : Reading) (j : Judgement) → ((read_outcome judges_only M C before r j).answer.number ≡ 0 → ⊥) → P (read_outcome follows M C before r j)
unfolding read_outcome judged_outcome answer_without_place
unaccepted follows M C before P h (no_model f place) j some = h _
unaccepted follows M C before P h (model N end) (refused_in f file place) some = either_less P _ _ (h _) (h _)
unaccepted follows M C before P h (model N end) (accepted blocks) some =
    absurd (some (sym (zero ∙ ap (λ (o : Outcome). o.answer.number) (not_less {z = unwritten (answer_without_place 0) before} _ (omega arith) refl))))
  where
    zero : 0 ≡ (unwritten (answer_without_place 0) before).answer.number
    zero = unfold unwritten answer_without_place in refl

-- what an accepted pair comes to: its flows, so many from a place on, and the two files
pub record Ready (kind : Kind) (M C table : List ℕ) (at : ℕ) : Type 0 where
  pub weak : is_strong kind ≡ false
  pub is_model : Bytes M
  pub is_certificate : Bytes C
  pub many : ℕ
  pub left : FlowsLeft C many at
  pub stand : FlowsStand C table at
  pub held : TableOf (model_at M) C table many at
  pub fit : NoneLarge table C at → FlowsFit C table at
  pub model_size : length (lowest_file M) ≡ length M
  pub certificate_size : length (flows_file table C many at) ≡ length C
  pub outcome : (before : List (List ℕ)) → refuse_large (model_at M) C before many at (files_outcome 36 (lowest_file M ∷ flows_file table C many at ∷ []) before) ≡ outcome_by (pairs_by kind Any) (rewrites_by kind M C) M C before

-- whatever the pair is judged by
module _ (by : PairRules) {M C blocks table : List ℕ} {count : ℕ} (b : Bytes M) (c : Bytes C) (file : by.models.is_file M (model_at M)) (a : AcceptedBy (pairs_of by) M C blocks) (d : HoldsDivisors M count table) (counted : (automaton_in M).transitions ≡ count) where
  stands : CertificateStands by.limits (by.rule M).file (by.rule M).says (by.rule M).decides (automaton_in M) (narrow-model by.limits (model_at M) by.widths (by.models.sound M (model_at M) file)) C blocks
  stands = accepted-stands by M C blocks b c (model_at M) file a

  ready : (kind : Kind) → is_strong kind ≡ false → (written : List ℕ) → lowest_file M ≡ written → length written ≡ length M
      → ((before : List (List ℕ)) → (rewrites (λ N. written) (by.rule M).file C).outcome (model_at M) blocks before ≡ outcome_by (pairs_by kind Any) (rewrites_by kind M C) M C before)
      → Ready kind M C table (flows_place (by.rule M).file (automaton_in M) C)
  ready kind w written e long follow =
      let same = accepted-file stands d counted in
      record {
        weak = w;
        is_model = b;
        is_certificate = c;
        many = length (questions (automaton_in M) blocks);
        left = accepted-left stands d counted;
        stand = accepted-flows stands d counted;
        held = accepted-table stands d counted;
        fit = accepted-fit stands d counted;
        model_size = ap length e ∙ long;
        certificate_size =
            ap length same ∙ rewritten-certificate-length (model_at M) (by.rule M).file.mark (certificate_at (by.rule M).file (automaton_in M) C) ∙ ap length (sym stands.encoded);
        outcome = λ before.
            ap₂ (λ (x y : List ℕ). refuse_large (model_at M) C before (length (questions (automaton_in M) blocks)) (flows_place (by.rule M).file (automaton_in M) C) (files_outcome 36 (x ∷ y ∷ []) before)) e same
            ∙ follow before;
      }

-- a file that is read is that of its model
is-file : (by : PairRules) {M : List ℕ} {end : ℕ} → Bytes M → by.models.read M ≡ model (model_at M) end → by.models.is_file M (model_at M)
is-file by {M} b e = (by.models.exactly M (model_at M) b).0 (e ∙ ap (model (model_at M)) (by.models.whole M (model_at M) _ b e))

-- an accepted pair, by its kind
module _ {M C table places : List ℕ} {n count : ℕ} (k : Known M n count places) (d : HoldsDivisors M count table) where
  follow : (kind : Kind) {at : ℕ} → AcceptedAt kind Any M C limits.states n count at → (before : List (List ℕ)) → (rewrites_by kind M C).outcome (model_at M) (take n (drop at C)) before ≡ outcome_by (pairs_by kind Any) (rewrites_by kind M C) M C before
  follow kind a before =
      ap (λ (l : List ℕ). (rewrites_by kind M C).outcome (model_at M) l before) (sym (part-is a)) ∙ part-follows a (rewrites_by kind M C) before (room kind M C before)

  by-kind : Bytes M → Bytes C → (kind : Kind) → is_strong kind ≡ false → {at : ℕ} → AcceptedAt kind Any M C limits.states n count at → Ready kind M C table (flows_place (rule_of kind M) (automaton_in M) C)
  by-kind b c Plain w a =
      let file = is-file stored_rules b a.model.reads in
      ready stored_rules b c file a.judged d (known-transitions k) Plain refl (model_bytes (rewritten_model (model_at M)))
      (lowest-model k file.encoded) (plain-rewritten limits limits-fit (omega arith) M (model_at M) file).long (follow Plain a)
  by-kind b c Costs w a =
      let file = is-file stored_cost_rules b a.model.reads in
      ready stored_cost_rules b c file a.judged d (known-transitions k) Costs refl (cost_model_bytes (rewritten_model (model_at M)) (costs_in M))
      (lowest-cost-file k limits limits-fit file) (cost-rewritten limits limits-fit (omega arith) M (model_at M) file).long (follow Costs a)
  by-kind b c Strong w a = absurd (false-not (sym w))

  pub pair-ready : {kind : Kind} {flows : ℕ} → CanRewrite kind M n count C flows → Ready kind M C table flows
  unfolding flows_place
  pair-ready {kind} {flows} h =
      let place : flows_place (rule_of kind M) (automaton_in M) C ≡ flows = omega (arith, h.place, h.accepted.stands, known-states k) in
      subst (Ready kind M C table) place (by-kind h.is_model h.is_certificate kind h.weak h.accepted)

-- what the call answers
abbrev answer_of : Kind → (M C one two : List ℕ) → Outcome
answer_of kind M C one two = outcome_by (pairs_by kind Any) (rewrites_by kind M C) M C (one ∷ two ∷ [])

module _ (kind : Kind) (w : is_strong kind ≡ false) {M C : List ℕ} (b : Bytes M) (c : Bytes C) (one two : List ℕ) where
  -- the outcome, with its demands
  with-demands : {one_after two_after : List ℕ} {r : PairAnswer} → OutcomeIs (answer_of kind M C one two) (M ∷ C ∷ []) (one_after ∷ two_after ∷ []) r.answer → r.certificate_written ≡ second_written (answer_of kind M C one two) → RewriteAnswered kind M C one two one_after two_after r
  with-demands {one_after} {two_after} {r} o e = record { answers = record { outcome = o; demands = go kind w o }; second = e }
    where
      go : (kind : Kind) → is_strong kind ≡ false → OutcomeIs (answer_of kind M C one two) (M ∷ C ∷ []) (one_after ∷ two_after ∷ []) r.answer → rewrite_demands kind M C (one ∷ two ∷ []) (one_after ∷ two_after ∷ []) r.answer.number
      go Plain w o = plain-rewrite-demands limits limits-fit (omega arith) M C (one ∷ two ∷ []) (one_after ∷ two_after ∷ []) r.answer.number b c (ap (λ (x : rules.Answer). x.number) o.gives.answer) o.gives.buffers
      go Strong w o = absurd (false-not (sym w))
      go Costs w o = cost-rewrite-demands limits limits-fit (omega arith) M C (one ∷ two ∷ []) (one_after ∷ two_after ∷ []) r.answer.number b c (ap (λ (x : rules.Answer). x.number) o.gives.answer) o.gives.buffers

  -- nothing is written
  refused : {a : Answer} {r : PairAnswer} → OutcomeIs (answer_of kind M C one two) (M ∷ C ∷ []) (one ∷ two ∷ []) a → second_written (answer_of kind M C one two) ≡ 0 → Unwritten a r → RewriteAnswered kind M C one two one two r
  refused o z u = with-demands (subst (OutcomeIs (answer_of kind M C one two) (M ∷ C ∷ []) (one ∷ two ∷ [])) (sym u.0) o) (u.1 ∙ sym z)

  pub pair-refused : {a : Answer} {r : PairAnswer} → RefusedAs kind Any M C limits.states a → Unwritten a r → RewriteAnswered kind M C one two one two r
  unfolding pair_outcome
  pair-refused h u =
      refused (h.refuses (rewrites_by kind M C) (one ∷ two ∷ []) (room kind M C (one ∷ two ∷ [])))
      (unaccepted (rewrites_by kind M C) M C (one ∷ two ∷ []) (λ (o : Outcome). second_written o ≡ 0) (λ x. none-second x (one ∷ two ∷ [])) _ _
      (λ z. h.some (ap (λ (x : rules.Answer). x.number) (h.refuses judges_only (one ∷ two ∷ []) (only-room (one ∷ two ∷ []))).gives.answer ∙ z)))
      u

-- what follows acceptance
module _ {kind : Kind} {M C table : List ℕ} {at : ℕ} (one two : List ℕ) (p : Ready kind M C table at) where
  -- 35
  pub large-refused : {place : ℕ} {g : rules-faults.Fault} {f : Fault} {a : Answer} {r : PairAnswer} → LargeAt table C at place → g ≡ fault 35 → PlacedAt g place f → Says (refusal_in (fault_of f) 2 f.place (length C)) 0 a → Unwritten a r → RewriteAnswered kind M C one two one two r
  unfolding file_of
  large-refused {place} {f = f} {a = a} found is placed s u =
      let e : unwritten (refusal_in (fault 35) 2 place (length C)) (one ∷ two ∷ []) ≡ answer_of kind M C one two =
      sym (found.large p.many p.left (model_at M) p.held (one ∷ two ∷ []) _) ∙ p.outcome (one ∷ two ∷ []) in
      let same : refusal_in (fault_of f) 2 f.place (length C) ≡ refusal_in (fault 35) 2 place (length C) =
      ap₂ (λ (x : rules-faults.Fault) (y : ℕ). refusal_in x 2 y (length C)) (placed.is ∙ is) placed.at in
      refused kind p.weak p.is_model p.is_certificate one two (with-stretch (M ∷ C ∷ []) (one ∷ two ∷ []) (fault 35) 2 place (subst (λ (x : rules.Answer). Says x 0 a) same s) e (omega arith) (omega arith))
      (ap second_written (sym e) ∙ none-second _ (one ∷ two ∷ [])) u

  module _ (found : NoneLarge table C at) where
    past : files_outcome 36 (lowest_file M ∷ flows_file table C p.many at ∷ []) (one ∷ two ∷ []) ≡ answer_of kind M C one two
    past = sym (found.none p.many p.left (model_at M) p.held (one ∷ two ∷ []) _) ∙ p.outcome (one ∷ two ∷ [])

    -- 36
    short : {a : Answer} {r : PairAnswer} → unwritten (answer_without_place 36) (one ∷ two ∷ []) ≡ answer_of kind M C one two → Says (answer_without_place 36) 0 a → Unwritten a r → RewriteAnswered kind M C one two one two r
    short e s u = refused kind p.weak p.is_model p.is_certificate one two (without-stretch 36 s.answer (gives-unwritten (one ∷ two ∷ []) _ s e)) (ap second_written (sym e) ∙ none-second _ (one ∷ two ∷ [])) u

    pub model-short : {a : Answer} {r : PairAnswer} → length one < length M → Says (answer_without_place 36) 0 a → Unwritten a r → RewriteAnswered kind M C one two one two r
    model-short h s u = short (first_short 36 _ _ one two (omega (arith, h, p.model_size)) ∙ past) s u

    pub certificate-short : {a : Answer} {r : PairAnswer} → length M ≤ length one → length two < length C → Says (answer_without_place 36) 0 a → Unwritten a r → RewriteAnswered kind M C one two one two r
    certificate-short g h s u = short (second_short 36 _ _ one two (omega (arith, g, p.model_size)) (omega (arith, h, p.certificate_size)) ∙ past) s u

    -- both files
    pub pair-written : {one_after two_after : List ℕ} {r : PairAnswer} → length M ≤ length one → length C ≤ length two → one_after ≡ lowest_file M ++ drop (length M) one → FlowsWritten table C at two two_after → Says (answer_without_place 0) (length M) r.answer → r.certificate_written ≡ length C → RewriteAnswered kind M C one two one_after two_after r
    pair-written g h wrote flows s e =
        let second = flows_file table C p.many at in
        let Filled-is = both-fit 36 (lowest_file M) second one two (omega (arith, g, p.model_size)) (omega (arith, h, p.certificate_size)) ∙ past in
        with-demands kind p.weak p.is_model p.is_certificate one two
        (without-stretch 0 s.answer
        (gives_both (lowest_file M) second one two Filled-is (without-as 0 (length (lowest_file M)) s refl (sym p.model_size))
        (wrote ∙ ap (λ (n : ℕ). lowest_file M ++ drop n one) (sym p.model_size))
        (flows.file p.many p.left ∙ ap (λ (n : ℕ). second ++ drop n two) (sym p.certificate_size))))
        (e ∙ sym p.certificate_size ∙ second-both (lowest_file M) second one two Filled-is)
