-- Demand 2: judging answers acceptance exactly when the rules are kept, whatever a pair of files is judged by.
use Rattle.std.specs.Prelude.{ℕ, ◌<◌, ◌↔◌, List, length}
use Rattle.std.proofs.Math.Path.{◌≡◌, refl, sym, ap}
use Rattle.std.proofs.Common.{◌∙◌, subst, arith}
use Rattle.std.proofs.Math.ListN.{get_or-eq_default}
use Rattle.std.proofs.Math.Decide.{dec_lt}
use Rattle.rules.proofs.argument.AnyRule.{Narrow, PairRules, pairs_of}
use Rattle.rules.specs.definitions.Limits.{Limits}
use Rattle.rules.specs.definitions.Bytes.{byte_at}
use Rattle.rules.specs.definitions.Model.{Model, automaton_of}
use Rattle.rules.specs.definitions.Reading.{Reading, model, no_model}
use Rattle.rules.specs.definitions.SoundModel.{Bytes, SoundModel, FitsWidths}
use Rattle.rules.proofs.argument.SoundModelLaws.{sound-automaton}
use Rattle.rules.proofs.argument.Standing.{IsBytes}
use Rattle.rules.specs.definitions.Judging.{accepted, judge_reading, judge}
use Rattle.rules.specs.definitions.Accepted.{RuleSays, KeepsRules, Accepted}
use Rattle.rules.specs.definitions.Encoding.{Certificate}
use Rattle.bisimulation.specs.definitions.Automaton.{Automaton}
use Rattle.rules.specs.definitions.JudgedBy.{AcceptedBy}
use Rattle.rules.proofs.argument.CertificateKept.{CertificateStands, certificate-stands, accepted-kept, kept-accepted}

-- of the limits, a certificate's rules have the most refutations alone
pub keeps-limit : {L N : Limits} {says : RuleSays} {A : Automaton} {K : Certificate} → L.refutations ≡ N.refutations → KeepsRules L says A K → KeepsRules N says A K
keeps-limit e k =
    record {
      left = k.left;
      few = omega (arith, k.few, e);
      refutations = k.refutations;
      blocks = k.blocks;
      asked = k.asked;
      is_asked = k.is_asked;
      flows = k.flows;
    }

-- bytes, at every place
pub is-bytes : (s : List ℕ) → Bytes s → IsBytes s
unfolding Bytes byte_at
is-bytes s h = record { small = λ i. go i (dec_lt i (length s)) }
  where
    go : (i : ℕ) → Dec (i < length s) → byte_at s i < 256
    go i (yes l) = h i l
    go i (no l) = subst (λ (k : ℕ). k < 256) (sym (get_or-eq_default s 0 (omega arith))) (omega arith)

-- the automaton of a sound model fits the fields of a certificate
pub narrow-model : (L : Limits) (M : Model) → FitsWidths L → SoundModel L M → Narrow (automaton_of M)
unfolding automaton_of
narrow-model L M widths sound =
    record {
      sound = sound-automaton L M sound;
      states = omega (arith, sound.states, widths.states);
      transitions = omega (arith, sound.count, widths.transitions);
    }

module _ (by : PairRules) where
  -- the rules are kept, with these blocks
  abbrev pub AcceptedAs : (bytes C blocks : List ℕ) → Type 0
  AcceptedAs bytes C blocks = Accepted by.limits by.models.is_file (by.rule bytes).says (by.rule bytes).file.mark bytes C blocks

  module _ (bytes C blocks : List ℕ) (is_bytes : Bytes bytes) where
    -- where the rules are kept, judging accepts
    pub accepted-judged : AcceptedAs bytes C blocks → AcceptedBy (pairs_of by) bytes C blocks
    unfolding judge judge_reading
    accepted-judged a =
        let read = (by.models.exactly bytes a.M is_bytes).1 a.file in
        let narrow = narrow-model by.limits a.M by.widths (by.models.sound bytes a.M a.file) in
        record {
          answers =
              ap (λ (r : Reading). judge_reading by.limits (by.rule bytes).file r C) read
              ∙ sym (kept-accepted by.limits (by.rule bytes).file (by.rule bytes).says (by.rule bytes).decides (automaton_of a.M) narrow C (by.rule bytes).mark by.refutations a.kept.certificate a.kept.encoded a.kept.keeps)
              ∙ ap accepted a.kept.named;
        }

    module _ (is_c : Bytes C) where
      judged-accepted : (r : Reading) → by.models.read bytes ≡ r → accepted blocks ≡ judge_reading by.limits (by.rule bytes).file r C → AcceptedAs bytes C blocks
      unfolding judge_reading
      judged-accepted (model M end) q e =
          let whole : by.models.read bytes ≡ model M (length bytes) = q ∙ ap (model M) (by.models.whole bytes M end is_bytes q) in
          let file = (by.models.exactly bytes M is_bytes).0 whole in
          let narrow = narrow-model by.limits M by.widths (by.models.sound bytes M file) in
          record { M = M; file = file; kept = accepted-kept by.limits (by.rule bytes).file (by.rule bytes).says (by.rule bytes).decides (automaton_of M) narrow C (is-bytes C is_c) blocks e }
      judged-accepted (no_model f place) q e = let z : ◌≡◌ {A = ℕ} 0 1 = cc in absurd (omega arith)

      -- accepted exactly when the rules are kept
      pub accepted-exactly : AcceptedBy (pairs_of by) bytes C blocks ↔ AcceptedAs bytes C blocks
      unfolding judge
      accepted-exactly = (λ a. judged-accepted (by.models.read bytes) refl (sym a.answers), λ a. accepted-judged a)

      -- and then the certificate that stands in the file keeps them, for the model in the other
      pub accepted-stands : (M : Model) (file : by.models.is_file bytes M) → AcceptedBy (pairs_of by) bytes C blocks → CertificateStands by.limits (by.rule bytes).file (by.rule bytes).says (by.rule bytes).decides (automaton_of M) (narrow-model by.limits M by.widths (by.models.sound bytes M file)) C blocks
      unfolding judge judge_reading
      accepted-stands M file a =
          certificate-stands by.limits (by.rule bytes).file (by.rule bytes).says (by.rule bytes).decides (automaton_of M) (narrow-model by.limits M by.widths (by.models.sound bytes M file)) C (is-bytes C is_c) blocks
          (sym a.answers ∙ ap (λ (r : Reading). judge_reading by.limits (by.rule bytes).file r C) ((by.models.exactly bytes M is_bytes).1 file))
