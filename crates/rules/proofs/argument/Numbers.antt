-- Judging answers a number that it has, whatever bytes arrive.
use Prim.Native.Nat.{ℕ, zero, suc}
use Rattle.std.specs.Prelude.{◌≡◌, ◌⊎◌, length}
use Rattle.std.proofs.Math.Path.{refl}
use Rattle.std.proofs.Math.Logic.{inl, inr, ⊎_elim}
use mathlib.Core.List.{List, [], ◌∷◌}
use native.Mathlib.Omega.{arith}
use Rattle.bisimulation.proofs.argument.ChoiceLaws.{either_less}
use Rattle.bisimulation.specs.definitions.Automaton.{Automaton}
use Rattle.bisimulation.specs.definitions.Pairs.{Pairs}
use Rattle.rules.specs.definitions.Limits.{Limits}
use Rattle.rules.specs.definitions.Model.{automaton_of}
use Rattle.rules.specs.definitions.Reading.{Reading, model, no_model}
use Rattle.rules.specs.definitions.Faults.{Fault, fault, no_fault}
use Rattle.rules.proofs.argument.JudgingLaws.{record-cases}
use Rattle.rules.proofs.argument.RecordFaults.{head-either, refutation-either, blocks-either, flow-either}
use Rattle.rules.proofs.argument.FaultLaws.{Told, told-fault}
use Rattle.rules.specs.definitions.Certificate.{FileRule, certificate_head_fault, refutation_fault, blocks_fault, flow_fault}
use Rattle.rules.specs.definitions.Judging.{Judgement, accepted, refused_in, refuse_record_at, Question, judge_flows, judge_blocks, judge_refutations, judge_certificate, judge_reading, judge}
use Rattle.rules.proofs.argument.AnyRule.{NoneOr, AnswersOnly, PairRules, AnyCertificateNumber, RefusalOf}

module _ (numbers : ℕ → Type 0) where
  -- the refusals of a certificate record: those that every rule has, and the rule's own
  abbrev Listed : Fault → Type 0
  Listed f = NoneOr (λ k. AnyCertificateNumber k ⊎ numbers k) f

  listed : (k : ℕ) → AnyCertificateNumber k → Listed (fault k)
  unfolding AnyCertificateNumber
  listed k h =
      record { number = inr (inl h); told = told-fault k (⊎_elim (λ x. omega arith) (⊎_elim (λ x. omega arith) (λ x. omega arith)) h) }

  none-listed : Listed no_fault
  none-listed = record { number = inl refl; told = told-fault 0 (omega arith) }

  own-listed : (f : Fault) → NoneOr numbers f → Listed f
  own-listed f h = record { number = ⊎_elim (λ z. inl z) (λ z. inr (inr z)) h.number; told = h.told }

  short : Listed (fault 11)
  unfolding AnyCertificateNumber
  short = listed 11 (inl (omega arith, omega arith))

  mark : Listed (fault 12)
  unfolding AnyCertificateNumber
  mark = listed 12 (inl (omega arith, omega arith))

  many : Listed (fault 13)
  unfolding AnyCertificateNumber
  many = listed 13 (inl (omega arith, omega arith))

  pair : Listed (fault 14)
  unfolding AnyCertificateNumber
  pair = listed 14 (inl (omega arith, omega arith))

  order : Listed (fault 17)
  unfolding AnyCertificateNumber
  order = listed 17 (inr (inl (omega arith, omega arith)))

  differs : Listed (fault 18)
  unfolding AnyCertificateNumber
  differs = listed 18 (inr (inl (omega arith, omega arith)))

  entry : Listed (fault 19)
  unfolding AnyCertificateNumber
  entry = listed 19 (inr (inl (omega arith, omega arith)))

  left : Listed (fault 22)
  unfolding AnyCertificateNumber
  left = listed 22 (inr (inr refl))

  module _ (L : Limits) (file : FileRule) (rule : AnswersOnly numbers file) (A : Automaton) (C : List ℕ) where
    head-listed : Listed (certificate_head_fault L file C)
    head-listed = head-either Listed none-listed C short mark L file many

    refutation-listed : (R : Pairs) (at : ℕ) → Listed (refutation_fault file A C R at)
    refutation-listed R at = refutation-either Listed none-listed C short mark file A R at pair (own-listed _ (rule.prices A R _ _ _))

    blocks-listed : (R : Pairs) (at : ℕ) → Listed (blocks_fault A C R at)
    blocks-listed R at = blocks-either Listed none-listed C short mark A R at order differs

    flow-listed : (R : Pairs) (q t at : ℕ) → Listed (flow_fault file A C R q t at)
    flow-listed R q t at = flow-either Listed none-listed C short mark file A R q t at entry (own-listed _ (rule.equations A q t _))

-- a refusal of judging: its number is not 0, and one that judging has; and what it tells
pub record RefusedWith (by : PairRules) (f : Fault) : Type 0 where
  pub some : f.number ≡ 0 → ⊥
  pub number : RefusalOf by f.number
  pub told : Told f

-- the number of a judgement: acceptance, or a refusal that judging has
abbrev pub JudgementNumber : PairRules → Judgement → Type 0
JudgementNumber by (accepted blocks) = Unit {0}
JudgementNumber by (refused_in f file place) = RefusedWith by f

module _ (by : PairRules) where
  refused-with : (f : Fault) → (f.number ≡ 0 → ⊥) → Listed by.numbers f → RefusedWith by f
  unfolding RefusalOf
  refused-with f n l = record { some = n; number = ⊎_elim (λ z. absurd (n z)) (λ z. inr z) l.number; told = l.told }

  numbered : (f : Fault) (place : ℕ) (next : Judgement) → Listed by.numbers f → JudgementNumber by next → JudgementNumber by (refuse_record_at f place next)
  numbered f place next l h = record-cases (JudgementNumber by) f place next (λ n. refused-with f n l) (λ p. h)

  module _ (M : List ℕ) (A : Automaton) (C : List ℕ) where
    flows-numbered : (R : Pairs) (blocks : List ℕ) (xs : List Question) (at : ℕ) → JudgementNumber by (judge_flows by.limits (by.rule M).file A C R blocks xs at)
    unfolding judge_flows
    flows-numbered R blocks [] at = either_less (JudgementNumber by) at (length C) (refused-with (fault 22) (omega arith) (left by.numbers)) tt
    flows-numbered R blocks (x ∷ xs) at = numbered _ at _ (flow-listed by.numbers by.limits (by.rule M).file (by.rule M).answers A C R _ _ at) (flows-numbered R blocks xs _)

    refutations-numbered : (left : ℕ) (R : Pairs) (at : ℕ) → JudgementNumber by (judge_refutations by.limits (by.rule M).file A C left R at)
    unfolding judge_refutations judge_blocks
    refutations-numbered zero R at = numbered _ at _ (blocks-listed by.numbers by.limits (by.rule M).file (by.rule M).answers A C R at) (flows-numbered R _ _ _)
    refutations-numbered (suc left) R at = numbered _ at _ (refutation-listed by.numbers by.limits (by.rule M).file (by.rule M).answers A C R at) (refutations-numbered left _ _)

    pub certificate-numbered : JudgementNumber by (judge_certificate by.limits (by.rule M).file A C)
    unfolding judge_certificate
    certificate-numbered = numbered _ 0 _ (head-listed by.numbers by.limits (by.rule M).file (by.rule M).answers A C) (refutations-numbered _ _ 4)

  -- a model that is not read
  pub unread-number : (M : List ℕ) (f : Fault) (place : ℕ) → by.models.read M ≡ no_model f place → RefusedWith by f
  unfolding RefusalOf
  unread-number M f place e = let h = by.models.answers M f place e in record { some = h.0; number = inl h.1; told = h.3 }

  -- one of the numbers, on every pair of byte strings
  pub judge-number : (M C : List ℕ) → JudgementNumber by (judge by.limits by.models.read (by.rule M).file M C)
  unfolding judge judge_reading
  judge-number M C = go (by.models.read M) refl
    where
      go : (r : Reading) → by.models.read M ≡ r → JudgementNumber by (judge_reading by.limits (by.rule M).file r C)
      go (model N end) e = certificate-numbered M (automaton_of N) C
      go (no_model f place) e = unread-number M f place e
