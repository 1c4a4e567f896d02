-- A pair of files is refused, whatever would follow acceptance, or accepted, and its outcome is what follows.
use Rattle.std.specs.Prelude.{ℕ, ◌≤◌, ◌≡◌, ◌⊎◌, List, [], ◌∷◌, length}
use Rattle.std.proofs.Math.Path.{refl, sym, ap}
use Rattle.std.proofs.Common.{◌∙◌, inl, inr}
use Rattle.rules.specs.definitions.Model.{Model, automaton_of}
use Rattle.rules.specs.definitions.Reading.{Reading, model, no_model}
use Rattle.rules.specs.definitions.Judging.{Judgement, accepted, refused_in, judge_certificate, judge_reading, judge}
use Rattle.rules.specs.definitions.Answers.{Answer, refusal_in, judgement_answer, unwritten, Follows, first_lent, judged_outcome}
use Rattle.rules.specs.definitions.Demands.{outcome_by}
use Rattle.rules.proofs.argument.AnyRule.{PairRules, pairs_of}
use Rattle.rules.proofs.argument.CertificateKept.{not-refused}
use Rattle.rules.proofs.argument.Numbers.{JudgementNumber, certificate-numbered, unread-number}
use Rattle.rules.proofs.argument.PairOutcome.{AcceptedModel, outcome-refused, outcome-judged, outcome-accepted}

module _ (by : PairRules) (M C : List ℕ) where
  -- whatever follows acceptance finds room for the model's blocks
  abbrev pub Roomy : Follows → (before : List (List ℕ)) → Type 0
  Roomy follows before = (N : Model) (end : ℕ) → by.models.read M ≡ model N end → follows.block_room N ≤ length (first_lent before)

  -- the pair is refused, whatever would follow acceptance
  pub record Refused : Type 0 where
    pub answer : Answer
    pub some : answer.number ≡ 0 → ⊥
    pub refuses : (follows : Follows) (before : List (List ℕ)) → Roomy follows before → unwritten answer before ≡ outcome_by (pairs_of by) follows M C before
    pub unaccepted : (blocks : List ℕ) → judge by.limits by.models.read (by.rule M).file M C ≡ accepted blocks → ⊥

  abbrev pub Found : Type 0
  Found = AcceptedModel by.limits by.models.read (by.rule M).file M C

  -- or it is accepted
  pub refused-or-found : Refused ⊎ Found
  unfolding judge judge_reading judged_outcome judgement_answer unwritten refusal_in
  refused-or-found = by-model (by.models.read M) refl
    where
      judged : {r : Reading} → by.models.read M ≡ r → judge by.limits by.models.read (by.rule M).file M C ≡ judge_reading by.limits (by.rule M).file r C
      judged e = ap (λ (x : Reading). judge_reading by.limits (by.rule M).file x C) e

      by-judgement : (N : Model) (end : ℕ) → by.models.read M ≡ model N end → (j : Judgement) → j ≡ judge_certificate by.limits (by.rule M).file (automaton_of N) C → JudgementNumber by j → Refused ⊎ Found
      by-judgement N end e (accepted blocks) q h = inr (record { N = N; end = end; reads = e; blocks = blocks; judged = judged e ∙ sym q })
      by-judgement N end e (refused_in f file place) q h =
          inl
          (record {
            answer = judgement_answer (M ∷ C ∷ []) (refused_in f file place);
            some = h.some;
            refuses = λ follows before room. ap (judged_outcome follows M C before N) q ∙ outcome-judged by.limits by.models.read (by.rule M).file follows M C before e (room N end e);
            unaccepted = λ blocks z. not-refused blocks f file place (sym z ∙ judged e ∙ sym q);
          })

      by-model : (r : Reading) → by.models.read M ≡ r → Refused ⊎ Found
      by-model (model N end) e = by-judgement N end e _ refl (certificate-numbered by M (automaton_of N) C)
      by-model (no_model f place) e =
          inl
          (record {
            answer = refusal_in f 1 place (length M);
            some = (unread-number by M f place e).some;
            refuses = λ follows before room. outcome-refused by.limits by.models.read (by.rule M).file follows M C before f place e;
            unaccepted = λ blocks z. not-refused blocks f 1 place (sym z ∙ judged e);
          })

  certificate-accepted : (a : Found) → accepted a.blocks ≡ judge_certificate by.limits (by.rule M).file (automaton_of a.N) C
  unfolding judge judge_reading
  certificate-accepted a = sym a.judged ∙ ap (λ (r : Reading). judge_reading by.limits (by.rule M).file r C) a.reads

  -- an accepted pair has the outcome that follows
  pub found-outcome : (follows : Follows) (before : List (List ℕ)) → Roomy follows before → (a : Found) → follows.outcome a.N a.blocks before ≡ outcome_by (pairs_of by) follows M C before
  found-outcome follows before room a =
      outcome-accepted by.limits by.models.read (by.rule M).file follows M C before a.reads a.blocks (room a.N a.end a.reads) (certificate-accepted a)
