-- Document 02, K7: 'a pair accepted before is accepted with the same blocks'. Acceptance is monotone in the limits, by any rule.
use Prim.Native.Nat.{ℕ, zero, suc, ◌+◌}
use Rattle.std.proofs.Math.Path.{◌≡◌, refl, sym, ap}
use Rattle.std.proofs.Common.{◌∙◌, arith}
use mathlib.Core.List.{List, [], ◌∷◌}
use Rattle.bisimulation.specs.definitions.Automaton.{Automaton}
use Rattle.bisimulation.specs.definitions.Pairs.{Pairs, equal_labels}
use Rattle.bisimulation.proofs.argument.ChoiceLaws.{not_less, same}
use Rattle.rules.specs.definitions.Limits.{Limits}
use Rattle.rules.specs.definitions.Model.{automaton_of}
use Rattle.rules.specs.definitions.Faults.{Passes}
use Rattle.rules.proofs.argument.FaultLaws.{none_first, first-none, pass_on, pass-if_less}
use Rattle.rules.specs.definitions.Reading.{Reading, model, no_model}
use Rattle.rules.specs.definitions.Certificate.{FileRule, refutation_count, certificate_head_fault, refutation_fault, pairs_after, after_refutation, blocks_at, blocks_fault, flow_fault, after_flow}
use Rattle.rules.specs.definitions.Judging.{accepted, refuse_record_at, Question, questions, judge_flows, judge_blocks, judge_refutations, judge_certificate, judge_reading, Reader, judge}
use Rattle.rules.specs.definitions.JudgedBy.{JudgedBy, plain_pairs_at, AcceptedBy}
use Rattle.rules.proofs.argument.CertificateKept.{none-refused}
use Rattle.wider_limits.specs.definitions.Wider.{Within, ReadsOn, Widens}
use Rattle.cost_files.specs.definitions.CostPairs.{cost_pairs_at}
use Rattle.wider_limits.proofs.argument.ReadingWider.{whole-reads-on, costs-read-on}

-- behind the head no limit counts
module _ (L W : Limits) (rule : FileRule) (A : Automaton) (C : List ℕ) where
  flows-same : (R : Pairs) (blocks : List ℕ) (xs : List Question) (at : ℕ) → judge_flows L rule A C R blocks xs at ≡ judge_flows W rule A C R blocks xs at
  unfolding judge_flows
  flows-same R blocks [] at = refl
  flows-same R blocks (x ∷ xs) at =
      ap (refuse_record_at (flow_fault rule A C R x.challenger x.defender at) at) (flows-same R blocks xs (after_flow C at))

  refutations-same : (left : ℕ) (R : Pairs) (at : ℕ) → judge_refutations L rule A C left R at ≡ judge_refutations W rule A C left R at
  unfolding judge_refutations judge_blocks
  refutations-same zero R at =
      ap (refuse_record_at (blocks_fault A C R at) at) (flows-same R (blocks_at A C at) (questions A (blocks_at A C at)) (at + 2 + A.states))
  refutations-same (suc left) R at =
      ap (refuse_record_at (refutation_fault rule A C R at) at) (refutations-same left (pairs_after A C R at) (after_refutation rule A C at))

module _ (L W : Limits) (within : Within L W) (rule : FileRule) where
  head-wider : (C : List ℕ) → Passes (certificate_head_fault L rule C) → Passes (certificate_head_fault W rule C)
  unfolding certificate_head_fault
  head-wider C p =
      let a = none_first _ _ p in
      let b = pass-if_less _ _ _ _ a.1 (omega arith) in
      pass_on (first-none _ _ a.0 (not_less _ (omega (arith, within.refutations)) refl)) refl

  certificate-wider : (A : Automaton) (C blocks : List ℕ) → accepted blocks ≡ judge_certificate L rule A C → accepted blocks ≡ judge_certificate W rule A C
  unfolding judge_certificate refuse_record_at
  certificate-wider A C blocks e =
      let a = none-refused blocks _ 0 _ e in
      same _ (head-wider C a.0) (a.1 ∙ refutations-same L W rule A C (refutation_count C) (equal_labels A) 4)

  module _ (older newer : Reader) (on : ReadsOn older newer) (M C blocks : List ℕ) where
    -- what is read and judged of an accepted pair is the same within wider limits
    pub both-same : judge L older rule M C ≡ accepted blocks → (newer M ≡ older M) × (judge W newer rule M C ≡ judge L older rule M C)
    unfolding judge
    both-same e = go (older M) refl e
      where
        go : (r : Reading) → older M ≡ r → judge_reading L rule r C ≡ accepted blocks → (newer M ≡ older M) × (judge_reading W rule (newer M) C ≡ judge_reading L rule (older M) C)
        go (model N end) q a =
            let n = on.reads M N end q in
            let b : accepted blocks ≡ judge_reading W rule (model N end) C = unfold judge_reading in certificate-wider (automaton_of N) C blocks (sym a) in
            (n ∙ sym q, ap (λ (r : Reading). judge_reading W rule r C) n ∙ sym b ∙ sym e)
        go (no_model f place) q a = let z : ◌≡◌ {A = ℕ} 0 1 = unfold judge_reading in cc in absurd (omega arith)

    pub judge-wider : judge L older rule M C ≡ accepted blocks → judge W newer rule M C ≡ accepted blocks
    judge-wider e = (both-same e).1 ∙ e

-- what is read and judged of an accepted pair is the same, where pairs are judged alike within wider limits
module _ (older newer : JudgedBy) (wider : Widens older newer) (M C blocks : List ℕ) (a : AcceptedBy older M C blocks) where
  alike : (newer.read M ≡ older.read M) × (judge newer.limits newer.read (older.file M) M C ≡ judge older.limits older.read (older.file M) M C)
  alike = both-same older.limits newer.limits wider.limits (older.file M) older.read newer.read wider.read M C blocks a.answers

  pub read_same : newer.read M ≡ older.read M
  read_same = alike.0

  pub judged-same : judge newer.limits newer.read (newer.file M) M C ≡ judge older.limits older.read (older.file M) M C
  judged-same = ap (λ (rule : FileRule). judge newer.limits newer.read rule M C) (wider.file M) ∙ alike.1

  -- a pair accepted before is accepted with the same blocks
  pub accepted-wider : AcceptedBy newer M C blocks
  accepted-wider = record { answers = judged-same ∙ a.answers }

-- the pairs without costs and with them
pub plain-widens : (L W : Limits) → Within L W → Widens (plain_pairs_at L) (plain_pairs_at W)
plain-widens L W within = record { limits = within; read = whole-reads-on L W within; file = λ model. refl }

pub cost-widens : (L W : Limits) → Within L W → Widens (cost_pairs_at L) (cost_pairs_at W)
cost-widens L W within = record { limits = within; read = costs-read-on L W within; file = λ model. refl }
