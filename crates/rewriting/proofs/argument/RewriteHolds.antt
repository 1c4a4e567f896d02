-- What the calls that rewrite a stored pair answer, and that their demands follow from it.
use Prim.Native.Nat.{ℕ, zero, suc, ◌≤◌, ◌<◌}
use Rattle.std.specs.Prelude.{◌≡◌, ◌⊎◌, Bool, true, false, get_or}
use Rattle.std.proofs.Math.Path.{refl, sym, ap, subst, subst₂}
use Rattle.std.proofs.Common.{◌∙◌, arith}
use Rattle.std.proofs.Math.Logic.{inl, inr, ⊎_elim}
use mathlib.Core.List.{List, [], ◌∷◌, map}
use Rattle.std.proofs.Math.ListN.{length, take}
use Rattle.std.proofs.Math.Seq.{take-append_seam}
use Rattle.bisimulation.specs.definitions.Choice.{if_true}
use Rattle.bisimulation.proofs.argument.ChoiceLaws.{is_true, is_false, either_true, past_less, false-not}
use Rattle.rules.specs.definitions.Limits.{any_terms, lowest_terms, Limits, with_terms}
use Rattle.rules.specs.definitions.Model.{Model, model_bytes, automaton_of}
use Rattle.rules.specs.definitions.SoundModel.{Each, Bytes, FitsWidths}
use Rattle.rules.specs.definitions.Faults.{fault}
use Rattle.rules.specs.definitions.Certificate.{FileRule, after_flow}
use Rattle.rules.specs.definitions.Judging.{questions}
use Rattle.rules.specs.definitions.Encoding.{certificate_bytes}
use Rattle.rules.specs.definitions.CertificateAt.{flow_record_at, flows_place, flows_from, certificate_at}
use Rattle.rules.specs.definitions.Accepted.{Among, here, there}
use Rattle.rules.specs.definitions.JudgedBy.{AcceptedBy, plain_pairs_at}
use Rattle.rules.specs.definitions.Answers.{Lent, Outcome, left_in, refusal_in, answer_without_place, unwritten, filled, filled_each, filled_with, room_for, files_outcome, Follows, LateNumber}
use Rattle.rules.specs.definitions.Demands.{PairDemands, Accepting, KeepsRulesOn, outcome_by, Demands}
use Rattle.rules.proofs.argument.FaultLaws.{Told, told-fault}
use Rattle.rules.proofs.argument.ReadingLaws.{read_low, read_number}
use Rattle.rules.proofs.argument.AnswerLaws.{fault_in, left-unwritten, files-number, files-told, files-unwritten}
use Rattle.rules.proofs.argument.AnyRule.{PairRules, RefusalOf, pairs_of}
use Rattle.rules.proofs.argument.AcceptedExactly.{accepted-judged, accepted-stands}
use Rattle.rules.proofs.argument.Demand3Holds.{one-model}
use Rattle.rules.proofs.argument.PairOutcome.{FollowsLaws, outcome-number}
use Rattle.rules.proofs.argument.DemandsHold.{accepted-of, holds_of, demands-hold, one-late, plain-refusal, plain_other}
use Rattle.rules.proofs.argument.TwoReadings.{terms-fit, plain_rules_with}
use Rattle.cost_files.specs.definitions.CostModel.{cost_model_bytes, costs_in}
use Rattle.cost_files.specs.definitions.CostPairs.{cost_pairs_at}
use Rattle.cost_files.proofs.argument.CostAnswerLaws.{cost-refusal, cost-demands}
use Rattle.cost_files.specs.definitions.CostAnswer.{CostDemands}
use Rattle.rewriting.specs.definitions.Rewritten.{rewritten_model, rewritten_flow, rewritten_certificate}
use Rattle.rewriting.specs.definitions.RewriteAnswer.{passes_k, refuse_large, rewrites, rewrites_plain, rewrites_costs, RewriteNumber, RewriteCostsNumber, RewriteDemands}
use Rattle.rewriting.proofs.argument.RewrittenKept.{passes-fit, FitFlows}
use Rattle.rewriting.proofs.argument.RewrittenFiles.{rewritten-certificate-length}
use Rattle.rewriting.proofs.argument.CostReadings.{cost_rules_with}
use Rattle.rewriting.proofs.argument.RewrittenPairs.{RewrittenFile, rewritten-accepted, plain-rewritten, cost-rewritten}

-- files that are written: each stands in its buffer
each-written : (files before : List (List ℕ)) → room_for files before ≡ true → (i : ℕ) → i < length files → take (length (get_or files i [])) (get_or (map (λ (x : Lent). x.bytes) (filled_each files before)) i []) ≡ get_or files i []
unfolding room_for filled_each filled_with
each-written [] before room i l = absurd (omega arith)
each-written (file ∷ files) [] room i l = absurd (false-not room)
each-written (file ∷ files) (buffer ∷ before) room zero l = take-append_seam file _
each-written (file ∷ files) (buffer ∷ before) room (suc i) l =
    each-written files before (sym (past_less false (room_for files before) (length buffer) (length file) (λ z. false-not (sym z)) (sym room)).1) i (omega arith)

pub files-written : (short : ℕ) → (short ≡ 0 → ⊥) → (files before : List (List ℕ)) → (files_outcome short files before).answer.number ≡ 0 → (i : ℕ) → i < length files → take (length (get_or files i [])) (get_or (left_in (files_outcome short files before)) i []) ≡ get_or files i []
unfolding files_outcome filled unwritten answer_without_place
files-written short some files before z i l = go (room_for files before) refl z
  where
    go : (b : Bool) → room_for files before ≡ b → (if_true b (filled files before) (unwritten (answer_without_place short) before)).answer.number ≡ 0 → take (length (get_or files i [])) (get_or (left_in (if_true b (filled files before) (unwritten (answer_without_place short) before))) i []) ≡ get_or files i []
    go true room q =
        ap (λ (o : Outcome). take (length (get_or files i [])) (get_or (left_in o) i [])) (sym (is_true {z = filled files before} (unwritten (answer_without_place short) before) refl refl))
        ∙ each-written files before room i l
    go false room q =
        absurd (some (ap (λ (o : Outcome). o.answer.number) (is_false {z = unwritten (answer_without_place short) before} (filled files before) refl refl) ∙ q))

module _ (N : Model) (C : List ℕ) (before : List (List ℕ)) (next : Outcome) where
  -- 35 at a flow, or what comes after
  large_cases {κ} : (P : Outcome → Type κ) → ((at : ℕ) → P (unwritten (refusal_in (fault 35) 2 at (length C)) before)) → P next → (left at : ℕ) → P (refuse_large N C before left at next)
  unfolding refuse_large
  large_cases P refuse after zero at = after
  large_cases P refuse after (suc left) at = either_true P _ (refuse at) (large_cases P refuse after left (after_flow C at))

  -- no 35: every k fits once it is rewritten
  pub large-none : (left at : ℕ) → (refuse_large N C before left at next).answer.number ≡ 0 → FitFlows N (flows_from C left at) × (refuse_large N C before left at next ≡ next)
  unfolding refuse_large flows_from Each unwritten refusal_in
  large-none zero at z = (tt, refl)
  large-none (suc left) at z = go (passes_k (rewritten_flow N (flow_record_at C at)).ks) refl (large-none left (after_flow C at)) z
    where
      stop : Outcome
      stop = unwritten (refusal_in (fault 35) 2 at (length C)) before

      rest : Outcome
      rest = refuse_large N C before left (after_flow C at) next

      go : (b : Bool) → passes_k (rewritten_flow N (flow_record_at C at)).ks ≡ b → (rest.answer.number ≡ 0 → FitFlows N (flows_from C left (after_flow C at)) × (rest ≡ next)) → (if_true b stop rest).answer.number ≡ 0 → FitFlows N (flows_from C (suc left) at) × (if_true b stop rest ≡ next)
      go true h ih q = absurd (omega (arith, ap (λ (o : Outcome). o.answer.number) (is_true {z = stop} rest refl refl) ∙ q))
      go false h ih q =
          let past : rest ≡ if_true false stop rest = is_false {z = rest} stop refl refl in
          let r = ih (ap (λ (o : Outcome). o.answer.number) past ∙ q) in
          ((passes-fit _ h, r.0), sym past ∙ r.1)

-- the late numbers
two-late : {k : ℕ} → Among k (35 ∷ 36 ∷ []) → (k ≡ 35) ⊎ (k ≡ 36)
two-late here = inl refl
two-late (there h) = inr (one-late h)

-- what follows acceptance, of pairs that are refused with neither of them
module _ (by : PairRules) (other : (k : ℕ) → RefusalOf by k → (k ≡ 35) ⊎ (k ≡ 36) → ⊥) (file_of : Model → List ℕ) (rule : FileRule) (C : List ℕ) where
  pub rewrite-follow : FollowsLaws by (rewrites file_of rule C)
  unfolding Accepting unwritten refusal_in
  rewrite-follow =
      record {
        numbered = λ N blocks before.
            large_cases N C before _ (λ (o : Outcome). (o.answer.number ≡ 0) ⊎ Among o.answer.number (35 ∷ 36 ∷ [])) (λ at. inr here)
            (files-number 36 _ before (λ (k : ℕ). (k ≡ 0) ⊎ Among k (35 ∷ 36 ∷ [])) (inl refl) (inr (there here))) _ _;
        told = λ N blocks before.
            large_cases N C before _ (λ (o : Outcome). Told (fault_in o.answer)) (λ at. told-fault 35 (omega arith)) (files-told 36 _ before (omega arith)) _ _;
        unwritten = λ N blocks before.
            large_cases N C before _ (λ (o : Outcome). (o.answer.number ≡ 0 → ⊥) → left_in o ≡ before) (λ at n. left-unwritten (refusal_in (fault 35) 2 at (length C)) before) (files-unwritten 36 _ before) _ _;
        late = λ k h n z. other k h (two-late z);
        not_ten = λ z. ⊎_elim (λ x. omega (arith, x)) (λ x. omega (arith, x)) (two-late z);
      }

-- the demands, whatever pairs are judged by: a model file with what is written for it
module _ (stored now : PairRules) (file_of : Model → List ℕ) (model certificate : List ℕ)
    (rewritten : (M : Model) → stored.models.is_file model M → RewrittenFile stored now model (file_of (rewritten_model M)) M)
    (laws : FollowsLaws stored (rewrites file_of (stored.rule model).file certificate)) (before after : List (List ℕ)) (number : ℕ) (b : Bytes model) (c : Bytes certificate)
    (e : number ≡ (outcome_by (pairs_of stored) (rewrites file_of (stored.rule model).file certificate) model certificate before).answer.number)
    (left : after ≡ left_in (outcome_by (pairs_of stored) (rewrites file_of (stored.rule model).file certificate) model certificate before))
    (numbers : ℕ → Type 0) (known : numbers number) where
  abbrev follows : Follows
  follows = rewrites file_of (stored.rule model).file certificate

  judged : Demands (pairs_of stored) follows numbers model certificate before after number
  judged = demands-hold stored follows laws model certificate before after number b c e left numbers known

  -- what the two buffers hold where it answers 0
  record WrittenFor (M : Model) (blocks : List ℕ) : Type 0 where
    pub accepted : AcceptedBy (pairs_of stored) model certificate blocks
    pub fit : FitFlows M (certificate_at (stored.rule model).file (automaton_of M) certificate).flows
    pub first : take (length model) (get_or after 0 []) ≡ file_of (rewritten_model M)
    pub second : take (length certificate) (get_or after 1 []) ≡ certificate_bytes (stored.rule model).file.mark (rewritten_certificate M (certificate_at (stored.rule model).file (automaton_of M) certificate))

  written-for : number ≡ 0 → (M : Model) (blocks : List ℕ) → KeepsRulesOn (pairs_of stored) model certificate M blocks → WrittenFor M blocks
  unfolding Accepting certificate_at
  written-for z M blocks k =
      let rule = (stored.rule model).file in
      let A = automaton_of M in
      let file = file_of (rewritten_model M) in
      let K = certificate_at rule A certificate in
      let C = certificate_bytes rule.mark (rewritten_certificate M K) in
      let next = files_outcome 36 (file ∷ C ∷ []) before in
      let some = large-none M certificate before next (length (questions A blocks)) (flows_place rule A certificate) (sym (judged.numbered (inl z) M blocks k) ∙ z) in
      let holds : after ≡ left_in next = judged.written (inl z) M blocks k ∙ ap left_in some.1 in
      let zero : next.answer.number ≡ 0 = ap (λ (o : Outcome). o.answer.number) (sym some.1) ∙ sym (judged.numbered (inl z) M blocks k) ∙ z in
      let wrote = files-written 36 (λ x. omega arith) (file ∷ C ∷ []) before zero in
      let a = accepted-judged stored model certificate blocks b (accepted-of stored model certificate blocks b M k) in
      let stands = accepted-stands stored model certificate blocks b c M k.file a in
      let longs : length C ≡ length certificate = rewritten-certificate-length M rule.mark K ∙ ap length (sym stands.encoded) in
      record {
        accepted = a;
        fit = subst (λ (bs : List ℕ). FitFlows M (flows_from certificate (length (questions A bs)) (flows_place rule A certificate))) (sym stands.named) some.0;
        first =
            subst (λ (n : ℕ). take n (get_or after 0 []) ≡ file) (rewritten M k.file).long
            (ap (λ (l : List (List ℕ)). take (length file) (get_or l 0 [])) holds ∙ wrote 0 (omega arith));
        second =
            subst (λ (n : ℕ). take n (get_or after 1 []) ≡ C) longs
            (ap (λ (l : List (List ℕ)). take (length C) (get_or l 1 [])) holds ∙ wrote 1 (omega arith));
      }

  pub rewrite-demands : (judging : PairDemands) → judging model certificate before after number → RewriteDemands judging (pairs_of stored) (pairs_of now) model certificate before after number
  unfolding Accepting
  rewrite-demands judging held =
      record {
        judged = held;
        accepted = λ z M blocks k.
            let w = written-for z M blocks k in
            subst₂ (λ (m d : List ℕ). AcceptedBy (pairs_of now) m d blocks) (sym w.first) (sym w.second)
            (rewritten-accepted (rewritten M k.file) certificate blocks b c w.accepted w.fit);
        holds = λ z M file.
            let x = judged.accepts.0 (inl z) in
            let one : x.0 ≡ M = one-model stored model x.0 M (holds_of stored model certificate x.1 b x.0 x.2) (record { reads = (stored.models.exactly model M b).1 file }) in
            let w = written-for z M x.1 (subst (λ (N : Model). KeepsRulesOn (pairs_of stored) model certificate N x.1) one x.2) in
            let f = rewritten M file in
            subst (λ (m : List ℕ). now.models.is_file m (rewritten_model M) × stored.one_automaton model m M (rewritten_model M)) (sym w.first) (f.is_file, f.one);
      }

-- within limits
module _ (L : Limits) (widths : FitsWidths L) (few : L.refutations < 65536) where
  abbrev any : Limits
  any = with_terms any_terms L

  abbrev low : Limits
  low = with_terms lowest_terms L

  -- a refusal of judging without 34 is neither 35 nor 36
  plain-neither : (k : ℕ) → RefusalOf (plain_rules_with L widths few any_terms) k → (k ≡ 35) ⊎ (k ≡ 36) → ⊥
  plain-neither k h z =
      ⊎_elim (λ x. plain_other any (terms-fit L widths few any_terms) few 35 (omega arith) (λ y. omega arith) k h x)
      (λ x. plain_other any (terms-fit L widths few any_terms) few 36 (omega arith) (λ y. omega arith) k h x) z

  cost-neither : (k : ℕ) → RefusalOf (cost_rules_with L widths few any_terms) k → (k ≡ 35) ⊎ (k ≡ 36) → ⊥
  cost-neither k h z =
      let above : 35 ≤ k = ⊎_elim (λ x. omega (arith, x)) (λ x. omega (arith, x)) z in
      ⊎_elim (λ x. ⊎_elim (λ y. omega (arith, y)) (λ y. ⊎_elim (λ w. omega (arith, y, w)) (λ w. omega (arith, y, w)) z) (read_number any_terms k x))
      (⊎_elim (λ x. omega (arith, x)) (⊎_elim (λ x. omega (arith, x)) (λ x. omega (arith, x))))
      (cost-refusal any (terms-fit L widths few any_terms) few k h)

  module _ (model certificate : List ℕ) (before : List (List ℕ)) where
    -- pairs without costs
    pub plain-rewrite-follow : FollowsLaws (plain_rules_with L widths few any_terms) (rewrites_plain certificate)
    plain-rewrite-follow = rewrite-follow _ plain-neither model_bytes _ certificate

    pub plain-rewrite-numbered : RewriteNumber (outcome_by (plain_pairs_at any) (rewrites_plain certificate) model certificate before).answer.number
    unfolding LateNumber
    plain-rewrite-numbered =
        outcome-number (plain_rules_with L widths few any_terms) (rewrites_plain certificate) plain-rewrite-follow model certificate before RewriteNumber
        (inl (read_low any_terms 0 (omega arith))) (λ k z. inr (inr z))
        (λ k h. ⊎_elim inl (λ x. inr (inl x)) (plain-refusal any (terms-fit L widths few any_terms) few k h)) (λ N h. absurd (omega (arith, h)))

    -- those with costs
    pub cost-rewrite-follow : FollowsLaws (cost_rules_with L widths few any_terms) (rewrites_costs model certificate)
    cost-rewrite-follow = rewrite-follow _ cost-neither (λ N. cost_model_bytes N (costs_in model)) _ certificate

    pub cost-rewrite-numbered : RewriteCostsNumber (outcome_by (cost_pairs_at any) (rewrites_costs model certificate) model certificate before).answer.number
    unfolding RewriteCostsNumber LateNumber
    cost-rewrite-numbered =
        outcome-number (cost_rules_with L widths few any_terms) (rewrites_costs model certificate) cost-rewrite-follow model certificate before RewriteCostsNumber
        (inl (inl (read_low any_terms 0 (omega arith)))) (λ k z. inl (inr (inr z)))
        (λ k h. ⊎_elim (λ x. inl (inl x)) (⊎_elim (λ x. inl (inr (inl x))) inr) (cost-refusal any (terms-fit L widths few any_terms) few k h)) (λ N h. absurd (omega (arith, h)))

    module _ (after : List (List ℕ)) (number : ℕ) (b : Bytes model) (c : Bytes certificate) where
      -- the demands follow from what the call answers, and leaves in the buffers
      pub plain-rewrite-demands : number ≡ (outcome_by (plain_pairs_at any) (rewrites_plain certificate) model certificate before).answer.number → after ≡ left_in (outcome_by (plain_pairs_at any) (rewrites_plain certificate) model certificate before) → RewriteDemands (Demands (plain_pairs_at any) (rewrites_plain certificate) RewriteNumber) (plain_pairs_at any) (plain_pairs_at low) model certificate before after number
      plain-rewrite-demands e left =
          let known = subst RewriteNumber (sym e) plain-rewrite-numbered in
          rewrite-demands (plain_rules_with L widths few any_terms) (plain_rules_with L widths few lowest_terms) model_bytes model certificate
          (λ M f. plain-rewritten L widths few model M f) plain-rewrite-follow before after number b c e left RewriteNumber known _
          (demands-hold (plain_rules_with L widths few any_terms) (rewrites_plain certificate) plain-rewrite-follow model certificate before after number b c e left RewriteNumber known)

      pub cost-rewrite-demands : number ≡ (outcome_by (cost_pairs_at any) (rewrites_costs model certificate) model certificate before).answer.number → after ≡ left_in (outcome_by (cost_pairs_at any) (rewrites_costs model certificate) model certificate before) → RewriteDemands (CostDemands any (rewrites_costs model certificate) RewriteCostsNumber) (cost_pairs_at any) (cost_pairs_at low) model certificate before after number
      cost-rewrite-demands e left =
          let known = subst RewriteCostsNumber (sym e) cost-rewrite-numbered in
          rewrite-demands (cost_rules_with L widths few any_terms) (cost_rules_with L widths few lowest_terms) (λ N. cost_model_bytes N (costs_in model)) model certificate
          (λ M f. cost-rewritten L widths few model M f) cost-rewrite-follow before after number b c e left RewriteCostsNumber known _
          (cost-demands model certificate before any (terms-fit L widths few any_terms) few (rewrites_costs model certificate) cost-rewrite-follow after number b c e left RewriteCostsNumber known)
