-- The merged model of files: its laws hold whenever a certificate is accepted; all certificates accepted for one automaton give one merged file.
use Rattle.std.specs.Prelude.{ℕ, ◌≤◌, ◌<◌}
use Rattle.std.proofs.Common.{sym, ◌∙◌, arith}
use Rattle.std.proofs.Math.Path.{ap, subst}
use mathlib.Core.List.{List}
use Rattle.std.proofs.Math.ListN.{length}
use Rattle.rules.specs.definitions.Limits.{Limits, current}
use Rattle.rules.specs.definitions.Model.{automaton_of, model_bytes}
use Rattle.rules.specs.definitions.SoundModel.{FitsWidths}
use Rattle.rules.proofs.argument.SoundModelLaws.{current-fit}
use Rattle.rules.proofs.argument.ReadSound.{read-whole-sound}
use Rattle.rules.specs.definitions.PlainRule.{plain_rule}
use Rattle.rules.specs.definitions.Judging.{NameSameBlocks}
use Rattle.rules.proofs.argument.AnyRule.{CertificateRule}
use Rattle.quotient.specs.definitions.Quotient.{merged_file}
use Rattle.quotient.specs.definitions.Merged.{Merges}
use Rattle.rules.proofs.argument.Demand3Holds.{facts-of, one_answer_lem}
use Rattle.rules.proofs.argument.PlainRules.{whole_rules, plain_certificates}
use Rattle.quotient.proofs.argument.KeptTransitions.{stand-for-each-other, no-two-same}
use Rattle.quotient.proofs.argument.MergedSpelling.{merged-one}
use Rattle.rules.proofs.argument.NumberedBlocks.{accepted-numbered}
use Rattle.quotient.proofs.argument.QuotientLaws.{quotient-lowest, quotient-sound, merged-reads, merged-length, merged-states, merged-below, merged-label, merged-each}

module _ (L : Limits) (widths : FitsWidths L) (few : L.refutations < 65536) {numbers : ℕ → Type 0} (rule : CertificateRule numbers) where
  pub merges : Merges L rule.file
  unfolding NameSameBlocks merged_file
  merges =
      record {
        merged = λ bytes C blocks b c a M h.
            let facts = facts-of (whole_rules L widths few rule) bytes C blocks b c a M h in
            let ok = facts.sound in
            let named = accepted-numbered (whole_rules L widths few rule) bytes C blocks b c a h in
            record {
              sound = quotient-sound L M ok blocks named;
              holds = record { reads = merged-reads L M ok blocks named widths };
              short =
                  subst (λ (s : List ℕ). length (merged_file M blocks) ≤ length s) (sym (read-whole-sound L bytes M (length bytes) b h.reads).1)
                  (merged-length L M ok blocks named);
              states = merged-states L M ok blocks named;
              below = merged-below L M ok blocks named;
              label = merged-label L M ok blocks named (λ u v h l e. unfold automaton_of in facts.largest.itself.keeps_labels u v (record { first = h; second = l; same = e }));
              each = merged-each L M ok blocks named;
              transitions = stand-for-each-other L M ok blocks named;
              apart = no-two-same L M ok blocks named;
              lowest = quotient-lowest L M ok blocks named;
            };
        one_file = λ bytes₁ C₁ blocks₁ bytes₂ C₂ blocks₂ b₁ c₁ b₂ c₂ a₁ a₂ M N h k one.
            let by = whole_rules L widths few rule in
            ap model_bytes
            (merged-one L M N (facts-of by bytes₁ C₁ blocks₁ b₁ c₁ a₁ M h).sound (facts-of by bytes₂ C₂ blocks₂ b₂ c₂ a₂ N k).sound one blocks₁ (accepted-numbered by bytes₁ C₁ blocks₁ b₁ c₁ a₁ h))
            ∙ ap (merged_file N) (one_answer_lem by bytes₁ C₁ blocks₁ bytes₂ C₂ blocks₂ b₁ c₁ b₂ c₂ a₁ a₂ M N h k one);
      }

-- for today's limits and document 01's step rule
pub plain-merges : Merges current plain_rule
plain-merges = merges current current-fit (omega arith) plain_certificates
