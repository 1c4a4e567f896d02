-- Document 02, K2, of judging and of a call that judges: 20 and 21 come from a flow record of the certificate, at the place that is answered, whose
-- equations break first at the state that is answered, by the remainder that is.
use Prim.Native.Nat.{ℕ, zero, suc, ◌+◌, ◌≤◌, ◌<◌}
use Rattle.std.specs.Prelude.{◌≡◌, ◌⊎◌, length, ℤ}
use Rattle.std.proofs.Math.Path.{refl, subst}
use Rattle.std.proofs.Common.{sym, inr, ⊎_elim, arith}
use mathlib.Core.List.{List, [], ◌∷◌}
use Rattle.bisimulation.proofs.argument.ChoiceLaws.{either_less, either_same, either_true, past_less, past_same, kept_same}
use Rattle.bisimulation.specs.definitions.Automaton.{Automaton}
use Rattle.bisimulation.specs.definitions.StepRule.{Flow}
use Rattle.bisimulation.specs.definitions.Pairs.{Pairs, equal_labels}
use Rattle.bisimulation.specs.definitions.Prices.{Side, price_of_targets}
use Rattle.rules.specs.definitions.Limits.{Terms, Limits}
use Rattle.rules.specs.definitions.Bytes.{two_at}
use Rattle.rules.specs.definitions.Model.{Model, automaton_of}
use Rattle.rules.specs.definitions.SoundModel.{FitsWidths}
use Rattle.rules.specs.definitions.Reading.{ReadNumber, Reading, model, no_model}
use Rattle.rules.specs.definitions.Faults.{Fault, fault, no_fault, Passes, first_of, certificate_record}
use Rattle.rules.specs.definitions.Certificate.{FileRule, refutation_count, pairs_after, after_refutation, blocks_at, blocks_fault, after_flow, flow_at, flow_fault}
use Rattle.rules.specs.definitions.PlainRule.{by_kind, last_fault, internal_prices_fault, external_prices_fault, plain_prices_fault, plain_rule}
use Rattle.rules.specs.definitions.Judging.{Judgement, accepted, refused_in, Question, questions, judge_flows, judge_blocks, judge_refutations, judge_certificate, judge_reading, judge}
use Rattle.rules.specs.definitions.JudgedBy.{plain_pairs}
use Rattle.rules.specs.definitions.Accepted.{Among, Asks}
use Rattle.rules.specs.definitions.Answers.{Answer, refusal_in, answer_without_place, unwritten, Follows}
use Rattle.rules.specs.definitions.Demands.{outcome_by, Accepting}
use Rattle.rules.proofs.argument.AnyRule.{CertificateRule, PairRules, RefusalOf, pairs_of}
use Rattle.rules.proofs.argument.FaultLaws.{none_first, certificate-refuses, opened}
use Rattle.rules.proofs.argument.JudgingLaws.{record-cases}
use Rattle.rules.proofs.argument.RecordFaults.{k-either, w-either, open-either, head-either, refutation-either, blocks-either}
use Rattle.rules.proofs.argument.ReadingLaws.{read_number}
use Rattle.rules.proofs.argument.QuestionsLaws.{questions-asked}
use Rattle.rules.proofs.argument.BreakOrder.{InOrder, Kinds, equation_kinds, plain-order}
use Rattle.rules.proofs.argument.PlainRules.{PlainNumber, ModelNumber, whole_rules, plain_certificates, plain_rules}
use Rattle.rules.proofs.argument.AnswerLaws.{fault_in}
use Rattle.rules.proofs.argument.PairOutcome.{FollowsLaws, outcome-cases}

-- a fault that is 20 or 21
abbrev pub Broken : Fault → Type 0
Broken f = (f.number ≡ 20) ⊎ (f.number ≡ 21)

abbrev pub Unbroken : Fault → Type 0
Unbroken f = Broken f → ⊥

-- what a step rule tells with them: its price conditions answer neither, and its equations against a state t are looked at in the order of these
-- kinds
pub record TellsBreaks (kinds : Kinds) (file : FileRule) : Type 0 where
  pub prices : (A : Automaton) (R : Pairs) (q t : ℕ) (p : ℕ → ℤ) → Unbroken (file.prices_fault A R q t p)
  pub equations : (A : Automaton) (q t : ℕ) (x : Flow) → t < A.states → Broken (file.equations_fault A q t x) → InOrder A.states (kinds A q t x) (file.equations_fault A q t x)

-- 'Place alone says which question a record meets': the flow record at a place meets a question, where those of the questions given stand from
-- `at` on
pub data MeetsAt (C : List ℕ) (x : Question) (place : ℕ) : List Question → ℕ → Type 0 where
  first : {xs : List Question} → MeetsAt C x place (x ∷ xs) place
  later : {y : Question} {xs : List Question} {at : ℕ} → MeetsAt C x place xs (after_flow C at) → MeetsAt C x place (y ∷ xs) at

-- what 20 or 21 at a place of a file comes from
pub record BrokenFlow (kinds : Kinds) (A : Automaton) (C : List ℕ) (f : Fault) (file place : ℕ) : Type 0 where
  pub certificate : file ≡ 2
  -- a whole flow record stands at the place
  pub marked : two_at C place ≡ 0x464C
  pub whole : after_flow C place ≤ length C
  -- it meets a question of the automaton: a transition of a state and another state of its block, by the blocks record at another place
  pub blocks : ℕ
  pub named : two_at C blocks ≡ 0x424B
  pub question : Question
  pub asked : Asks A (blocks_at A C blocks) question
  pub meets : MeetsAt C question place (questions A (blocks_at A C blocks)) (blocks + 2 + A.states)
  -- and the fault is the first break of its equations
  pub breaks : InOrder A.states (kinds A question.challenger question.defender (flow_at C place)) f

is_among : (C : List ℕ) (x : Question) (place : ℕ) {xs : List Question} {at : ℕ} → MeetsAt C x place xs at → Among x xs
is_among C x place (MeetsAt.first) = Among.here
is_among C x place (MeetsAt.later m) = Among.there (is_among C x place m)

pub unbroken : (k : ℕ) → (k ≡ 20 → ⊥) → (k ≡ 21 → ⊥) → Unbroken (fault k)
unbroken k n m b = ⊎_elim n m b

-- what is 20 or 21 is past every other fault
past_first : {z : Fault} (f next : Fault) → Broken z → Unbroken f → z ≡ first_of f next → Passes f × (z ≡ next)
unfolding first_of
past_first f next b n e = kept_same next f f.number 0 (λ q. n (subst Broken q b)) e

past-fault : {z : Fault} (k : ℕ) → Broken z → Unbroken (fault k) → z ≡ fault k → ⊥
past-fault k b n e = n (subst Broken e b)

none : Unbroken no_fault
none = unbroken 0 (omega arith) (omega arith)

short : Unbroken (fault 11)
short = unbroken 11 (omega arith) (omega arith)

mark : Unbroken (fault 12)
mark = unbroken 12 (omega arith) (omega arith)

entry : Unbroken (fault 19)
entry = unbroken 19 (omega arith) (omega arith)

module _ (L : Limits) (kinds : Kinds) (file : FileRule) (tells : TellsBreaks kinds file) (A : Automaton) (C : List ℕ) where
  -- a flow record: it is whole, and the fault is that of its equations
  record FlowBroken (q t at : ℕ) (z : Fault) : Type 0 where
    marked : two_at C at ≡ 0x464C
    whole : after_flow C at ≤ length C
    is : z ≡ file.equations_fault A q t (flow_at C at)

  flow-broken : (R : Pairs) (q t at : ℕ) (z : Fault) → z ≡ flow_fault file A C R q t at → Broken z → FlowBroken q t at z
  unfolding flow_fault
  flow-broken R q t at z e b =
      let a = past_first _ _ b (open-either Unbroken none C short mark 0x464C 8 at) e in
      let d = past_same _ _ _ _ (past-fault 19 b entry) a.1 in
      let c = past_less _ _ _ _ (past-fault 11 b short) d.1 in
      let k = past_first _ _ b (k-either Unbroken none C entry A file q t _ (at + 8) 0) c.1 in
      let m = past_less _ _ _ _ (past-fault 11 b short) k.1 in
      let l = past_less _ _ _ _ (past-fault 11 b short) m.1 in
      let w = past_first _ _ b (w-either Unbroken none C entry A R _ _ 0) l.1 in
      record { marked = (opened certificate_record 0x464C 8 C at certificate-refuses a.0).marked; whole = l.0; is = w.1 }

  -- the flow records of questions, from a place on
  record FlowsBroken (xs : List Question) (at : ℕ) (f : Fault) (which place : ℕ) : Type 0 where
    certificate : which ≡ 2
    question : Question
    meets : MeetsAt C question place xs at
    broken : FlowBroken question.challenger question.defender place f

  abbrev FlowsTold : List Question → ℕ → Judgement → Type 0
  FlowsTold xs at (accepted blocks) = Unit {0}
  FlowsTold xs at (refused_in f which place) = Broken f → FlowsBroken xs at f which place

  one_later : (x : Question) (xs : List Question) (at : ℕ) (j : Judgement) → FlowsTold xs (after_flow C at) j → FlowsTold (x ∷ xs) at j
  one_later x xs at (accepted blocks) h = tt
  one_later x xs at (refused_in f which place) h =
      λ b. let k = h b in record { certificate = k.certificate; question = k.question; meets = MeetsAt.later k.meets; broken = k.broken }

  flows-told : (R : Pairs) (blocks : List ℕ) (xs : List Question) (at : ℕ) → FlowsTold xs at (judge_flows L file A C R blocks xs at)
  unfolding judge_flows
  flows-told R blocks [] at = either_less (FlowsTold [] at) at (length C) (λ b. absurd (unbroken 22 (omega arith) (omega arith) b)) tt
  flows-told R blocks (x ∷ xs) at =
      record-cases (FlowsTold (x ∷ xs) at) (flow_fault file A C R x.challenger x.defender at) at _
      (λ n b. record { certificate = refl; question = x; meets = MeetsAt.first; broken = flow-broken R x.challenger x.defender at _ refl b })
      (λ p. one_later x xs at (judge_flows L file A C R blocks xs (after_flow C at)) (flows-told R blocks xs (after_flow C at)))

  -- the whole certificate
  abbrev CertificateTold : Judgement → Type 0
  CertificateTold (accepted blocks) = Unit {0}
  CertificateTold (refused_in f which place) = Broken f → BrokenFlow kinds A C f which place

  of-flows : (at : ℕ) → two_at C at ≡ 0x424B → (j : Judgement) → FlowsTold (questions A (blocks_at A C at)) (at + 2 + A.states) j → CertificateTold j
  of-flows at named (accepted blocks) h = tt
  of-flows at named (refused_in f which place) h =
      λ b.
      let k = h b in
      let x = k.question in
      let asked = (questions-asked A (blocks_at A C at)).only x (is_among C x place k.meets) in
      record {
        certificate = k.certificate;
        marked = k.broken.marked;
        whole = k.broken.whole;
        blocks = at;
        named = named;
        question = x;
        asked = asked;
        meets = k.meets;
        breaks =
            let e = sym k.broken.is in
            subst (InOrder A.states (kinds A x.challenger x.defender (flow_at C place))) e
            (tells.equations A x.challenger x.defender (flow_at C place) asked.second (subst Broken k.broken.is b));
      }

  refutations-told : (left : ℕ) (R : Pairs) (at : ℕ) → CertificateTold (judge_refutations L file A C left R at)
  unfolding judge_refutations judge_blocks blocks_fault
  refutations-told zero R at =
      record-cases CertificateTold _ at _
      (λ n b. absurd (blocks-either Unbroken none C short mark A R at (unbroken 17 (omega arith) (omega arith)) (unbroken 18 (omega arith) (omega arith)) b))
      (λ p. of-flows at (opened certificate_record 0x424B (2 + A.states) C at certificate-refuses (none_first _ _ p).0).marked (judge_flows L file A C R (blocks_at A C at) (questions A (blocks_at A C at)) (at + 2 + A.states)) (flows-told R (blocks_at A C at) (questions A (blocks_at A C at)) (at + 2 + A.states)))
  refutations-told (suc left) R at =
      record-cases CertificateTold _ at _
      (λ n b. absurd (refutation-either Unbroken none C short mark file A R at (unbroken 14 (omega arith) (omega arith)) (tells.prices A R _ _ _) b))
      (λ p. refutations-told left (pairs_after A C R at) (after_refutation file A C at))

  certificate-told : CertificateTold (judge_certificate L file A C)
  unfolding judge_certificate
  certificate-told =
      record-cases CertificateTold _ 0 _
      (λ n b. absurd (head-either Unbroken none C short mark L file (unbroken 13 (omega arith) (omega arith)) b))
      (λ p. refutations-told (refutation_count C) (equal_labels A) 4)

-- what 20 or 21 for a pair of files comes from: the model was read, and a flow record of the certificate breaks
pub record BrokenPair (by : PairRules) (kinds : Kinds) (M C : List ℕ) (f : Fault) (file place : ℕ) : Type 0 where
  pub N : Model
  pub end : ℕ
  pub reads : by.models.read M ≡ model N end
  pub flow : BrokenFlow kinds (automaton_of N) C f file place

-- the same of an answer
abbrev pub AnswerBreaks : (by : PairRules) (kinds : Kinds) (M C : List ℕ) → Answer → Type 0
AnswerBreaks by kinds M C a = Broken (fault_in a) → BrokenPair by kinds M C (fault_in a) a.file a.place

-- files of which no model is refused with 20 or 21
module _ (by : PairRules) (kinds : Kinds) (M C : List ℕ) (tells : TellsBreaks kinds (by.rule M).file) (unread : (k : ℕ) → by.models.numbers k → Unbroken (fault k)) where
  abbrev JudgedTold : Judgement → Type 0
  JudgedTold (accepted blocks) = Unit {0}
  JudgedTold (refused_in f file place) = Broken f → BrokenPair by kinds M C f file place

  -- of judging
  pub break-judged : (f : Fault) (file place : ℕ) → judge by.limits by.models.read (by.rule M).file M C ≡ refused_in f file place → Broken f → BrokenPair by kinds M C f file place
  unfolding judge judge_reading
  break-judged f file place e = subst JudgedTold e (go (by.models.read M) refl)
    where
      read : (N : Model) (end : ℕ) → by.models.read M ≡ model N end → (j : Judgement) → CertificateTold by.limits kinds (by.rule M).file tells (automaton_of N) C j → JudgedTold j
      read N end r (accepted blocks) h = tt
      read N end r (refused_in g which at) h = λ b. record { N = N; end = end; reads = r; flow = h b }

      go : (r : Reading) → by.models.read M ≡ r → JudgedTold (judge_reading by.limits (by.rule M).file r C)
      go (model N end) r =
          read N end r (judge_certificate by.limits (by.rule M).file (automaton_of N) C) (certificate-told by.limits kinds (by.rule M).file tells (automaton_of N) C)
      go (no_model g at) r = λ b. absurd (unread g.number (by.models.answers M g at r).1 b)

  -- of a call that judges, whatever follows acceptance, where 20 and 21 are refusals of judging
  pub break-answered : RefusalOf by 20 → RefusalOf by 21 → (follows : Follows) → FollowsLaws by follows → (before : List (List ℕ)) → AnswerBreaks by kinds M C (outcome_by (pairs_of by) follows M C before).answer
  unfolding unwritten refusal_in answer_without_place Accepting
  break-answered r20 r21 follows laws before =
      outcome-cases by follows laws M C before (λ o. AnswerBreaks by kinds M C o.answer)
      (λ f file place h j b. break-judged f file place j b)
      (λ N end e h b. absurd (unbroken 10 (omega arith) (omega arith) b))
      (λ N end blocks e room q b. absurd (⊎_elim (λ z. none (of_number z b)) (λ z. late _ z b) (laws.numbered N blocks before)))
    where
      of_number : {n k : ℕ} → n ≡ k → Broken (fault n) → Broken (fault k)
      of_number z b = subst (λ (k : ℕ). (k ≡ 20) ⊎ (k ≡ 21)) z b

      late : (k : ℕ) → Among k follows.late → Unbroken (fault k)
      late k z b = ⊎_elim (λ x. laws.late 20 r20 (omega arith) (subst (λ (j : ℕ). Among j follows.late) x z)) (λ x. laws.late 21 r21 (omega arith) (subst (λ (j : ℕ). Among j follows.late) x z)) b

-- prices are refused with 15 and 16
pub price-unbroken : Unbroken (fault 15)
price-unbroken = unbroken 15 (omega arith) (omega arith)

pub last-unbroken : (A : Automaton) (side : Side) (X G : ℕ → ℤ) (q t : ℕ) → Unbroken (last_fault A side X G q t)
unfolding last_fault
last-unbroken A side X G q t = either_true Unbroken _ none (λ b. ⊎_elim (λ x. omega (arith, x)) (λ x. omega (arith, x)) b)

-- document 01's rule
module _ (A : Automaton) (side : Side) (R : Pairs) (q t : ℕ) where
  pub internal-unbroken : (X G : ℕ → ℤ) → Unbroken (internal_prices_fault A side R q t X G)
  unfolding internal_prices_fault
  internal-unbroken X G = either_true Unbroken _ (either_true Unbroken _ (last-unbroken A side X G q t) price-unbroken) price-unbroken

  pub external-unbroken : (X Y G : ℕ → ℤ) → Unbroken (external_prices_fault A side R q t X Y G)
  unfolding external_prices_fault
  external-unbroken X Y G =
      either_true Unbroken _ (either_true Unbroken _ (either_true Unbroken _ (either_true Unbroken _ (last-unbroken A side X G q t) price-unbroken) price-unbroken) price-unbroken) price-unbroken

pub plain-breaks : TellsBreaks equation_kinds plain_rule
unfolding plain_prices_fault by_kind
plain-breaks =
    record {
      prices = λ A R q t p. either_same Unbroken _ _ (internal-unbroken A (price_of_targets A) R q t _ _) (external-unbroken A (price_of_targets A) R q t _ _ _);
      equations = λ A q t x l b. plain-order A q t x;
    }

-- no number of reading is one of an equation
pub read-unbroken : (terms : Terms) (k : ℕ) → ReadNumber terms k → Unbroken (fault k)
read-unbroken terms k h = ⊎_elim (λ x. unbroken k (λ z. omega (arith, x, z)) (λ z. omega (arith, x, z))) (λ x. unbroken k (λ z. omega (arith, x, z)) (λ z. omega (arith, x, z))) (read_number terms k h)

-- a call that judges document 01's model files by one step rule, which answers document 01's numbers
pub whole-break-answered : (L : Limits) (widths : FitsWidths L) (few : L.refutations < 65536) (rule : CertificateRule PlainNumber) (kinds : Kinds) → TellsBreaks kinds rule.file → (M C : List ℕ) (follows : Follows) → FollowsLaws (whole_rules L widths few rule) follows → (before : List (List ℕ)) → AnswerBreaks (whole_rules L widths few rule) kinds M C (outcome_by (pairs_of (whole_rules L widths few rule)) follows M C before).answer
unfolding RefusalOf PlainNumber ModelNumber
whole-break-answered L widths few rule kinds tells M C =
    break-answered (whole_rules L widths few rule) kinds M C tells (λ k h. read-unbroken _ k h.1)
    (inr (inr (inr (omega arith, omega arith)))) (inr (inr (inr (omega arith, omega arith))))

-- by document 01's own
pub plain-break-answered : (M C : List ℕ) (follows : Follows) → FollowsLaws plain_rules follows → (before : List (List ℕ)) → AnswerBreaks plain_rules equation_kinds M C (outcome_by plain_pairs follows M C before).answer
plain-break-answered = whole-break-answered plain_rules.limits plain_rules.widths plain_rules.refutations plain_certificates equation_kinds plain-breaks
