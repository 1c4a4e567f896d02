-- An accepted pair, once rewritten, is accepted with the same blocks.
use Rattle.std.specs.Prelude.{ℕ, ◌≤◌, ◌<◌, ◌≡◌, refl, List, length}
use Rattle.std.proofs.Common.{sym, ◌∙◌}
use Rattle.std.proofs.Math.Path.{ap, subst}
use Rattle.rules.specs.definitions.Limits.{any_terms, lowest_terms, Limits, with_terms}
use Rattle.rules.specs.definitions.Model.{Model, model_bytes, automaton_of}
use Rattle.rules.specs.definitions.SoundModel.{Each, Bytes, FitsWidths}
use Rattle.rules.specs.definitions.Encoding.{Certificate, certificate_bytes}
use Rattle.rules.specs.definitions.PlainRule.{plain_rule}
use Rattle.rules.specs.definitions.CertificateAt.{certificate_at}
use Rattle.rules.specs.definitions.Accepted.{RuleSays, KeepsRules, FileOf}
use Rattle.rules.specs.definitions.JudgedBy.{AcceptedBy, plain_pairs_at}
use Rattle.rules.proofs.argument.SoundModelLaws.{sound-bytes}
use Rattle.rules.proofs.argument.AnyRule.{PairRules, pairs_of}
use Rattle.rules.proofs.argument.AcceptedExactly.{keeps-limit, accepted-judged, accepted-stands}
use Rattle.rules.proofs.argument.TwoReadings.{terms-fit, plain_rules_with}
use Rattle.cost_files.specs.definitions.CostModel.{highest_cost, cost_model_bytes, CostFileOf, costs_in}
use Rattle.cost_files.specs.definitions.CostFile.{cost_file}
use Rattle.cost_files.specs.definitions.CostPairs.{cost_pairs_at}
use Rattle.cost_files.specs.definitions.CostSays.{cost_says}
use Rattle.cost_files.proofs.argument.CostReadingLaws.{costs-in}
use Rattle.rewriting.specs.definitions.Rewritten.{rewritten_model, rewritten_certificate}
use Rattle.rewriting.proofs.argument.Divided.{KeptDivided, plain-divided}
use Rattle.rewriting.proofs.argument.DividedCosts.{cost-divided}
use Rattle.rewriting.proofs.argument.RewrittenKept.{rewritten-divided, FitFlows, rewritten-keeps}
use Rattle.rewriting.proofs.argument.RewrittenFiles.{rewritten-count, rewritten-sound, rewritten-one, rewritten-length, rewritten-costs-length, cost-bytes}
use Rattle.rewriting.proofs.argument.CostReadings.{cost_rules_with}

-- the file of a model, and the file that is written for it: what a kind of pairs has of them, so that an accepted pair stays accepted
pub record RewrittenFile (stored now : PairRules) (bytes written : List ℕ) (M : Model) : Type 1 where
  pub file : stored.models.is_file bytes M
  pub refutations : stored.limits.refutations ≡ now.limits.refutations
  -- the rule is kept under division, and is the same for both files
  pub divided : KeptDivided (stored.rule bytes).says
  pub says : (stored.rule bytes).says ≡ (now.rule written).says
  pub mark : (stored.rule bytes).file.mark ≡ (now.rule written).file.mark
  -- what is written is the file of the rewritten model, as long, and holds the same automaton
  pub is_bytes : Bytes written
  pub is_file : now.models.is_file written (rewritten_model M)
  pub long : length written ≡ length bytes
  pub one : stored.one_automaton bytes written M (rewritten_model M)

module _ {stored now : PairRules} {bytes written : List ℕ} {M : Model} (f : RewrittenFile stored now bytes written M) where
  -- the certificate that stands in the stored file
  abbrev pub stored_certificate : List ℕ → Certificate
  stored_certificate C = certificate_at (stored.rule bytes).file (automaton_of M) C

  -- and the file of it rewritten
  abbrev pub written_certificate : List ℕ → List ℕ
  written_certificate C = certificate_bytes (stored.rule bytes).file.mark (rewritten_certificate M (stored_certificate C))

  -- 'an accepted one, once rewritten, is accepted with the same blocks', where every rewritten k fits its field
  pub rewritten-accepted : (C blocks : List ℕ) → Bytes bytes → Bytes C → AcceptedBy (pairs_of stored) bytes C blocks → FitFlows M (stored_certificate C).flows → AcceptedBy (pairs_of now) written (written_certificate C) blocks
  unfolding rewritten_certificate
  rewritten-accepted C blocks b c a fit =
      let stands = accepted-stands stored bytes C blocks b c M f.file a in
      let K = rewritten_certificate M (stored_certificate C) in
      let keeps : KeepsRules stored.limits (stored.rule bytes).says (automaton_of (rewritten_model M)) K =
      rewritten-keeps f.divided M (rewritten-divided stored.limits M (stored.models.sound bytes M f.file)) stored.limits (stored_certificate C) stands.keeps fit in
      accepted-judged now written (written_certificate C) blocks f.is_bytes
      (record {
        M = rewritten_model M;
        file = f.is_file;
        kept =
            record {
              certificate = K;
              encoded = ap (λ (mark : ℕ). certificate_bytes mark K) f.mark;
              keeps = subst (λ (says : RuleSays). KeepsRules now.limits says (automaton_of (rewritten_model M)) K) f.says (keeps-limit f.refutations keeps);
              named = stands.named;
            };
      })

module _ (L : Limits) (widths : FitsWidths L) (few : L.refutations < 65536) (bytes : List ℕ) (M : Model) where
  -- a file without costs
  pub plain-rewritten : FileOf (with_terms any_terms L) bytes M → RewrittenFile (plain_rules_with L widths few any_terms) (plain_rules_with L widths few lowest_terms) bytes (model_bytes (rewritten_model M)) M
  plain-rewritten f =
      let sound = rewritten-sound any_terms L M f.sound in
      record {
        file = f;
        refutations = refl;
        divided = plain-divided;
        says = refl;
        mark = refl;
        is_bytes = sound-bytes (with_terms lowest_terms L) (rewritten_model M) (terms-fit L widths few lowest_terms) sound;
        is_file = record { sound = sound; encoded = refl };
        long = rewritten-length M ∙ ap length (sym f.encoded);
        one = rewritten-one (with_terms any_terms L) M f.sound;
      }

  -- a file with costs, which stay
  pub cost-rewritten : CostFileOf (with_terms any_terms L) bytes M → RewrittenFile (cost_rules_with L widths few any_terms) (cost_rules_with L widths few lowest_terms) bytes (cost_model_bytes (rewritten_model M) (costs_in bytes)) M
  cost-rewritten f =
      let any = with_terms any_terms L in
      let low = with_terms lowest_terms L in
      let fit = terms-fit L widths few in
      let sound = rewritten-sound any_terms L M f.sound in
      let is : costs_in bytes ≡ f.costs = costs-in any (fit any_terms) bytes M f in
      let written = cost_model_bytes (rewritten_model M) (costs_in bytes) in
      let file : CostFileOf low written (rewritten_model M) =
      record {
        costs = costs_in bytes;
        sound = sound;
        right =
            record {
              count = ap length is ∙ f.right.count ∙ sym (rewritten-count M);
              most = subst (Each (λ (c : ℕ). c ≤ highest_cost)) (sym is) f.right.most;
            };
        encoded = refl;
      } in
      let stay : costs_in bytes ≡ costs_in written = sym (costs-in low (fit lowest_terms) written (rewritten_model M) file) in
      record {
        file = f;
        refutations = refl;
        divided = cost-divided (costs_in bytes);
        says = ap cost_says stay;
        mark = refl;
        is_bytes = cost-bytes low (rewritten_model M) (costs_in bytes) (fit lowest_terms) sound file.right;
        is_file = file;
        long = rewritten-costs-length M (costs_in bytes) ∙ ap (λ (costs : List ℕ). length (cost_model_bytes M costs)) is ∙ ap length (sym f.encoded);
        one = record { automaton = rewritten-one any M f.sound; costs = stay };
      }

  -- 'an accepted one, once rewritten, is accepted with the same blocks': pairs without costs, where no rewritten k is above the highest
  pub plain-pair-rewritten : (C blocks : List ℕ) → Bytes bytes → Bytes C → FileOf (with_terms any_terms L) bytes M → AcceptedBy (plain_pairs_at (with_terms any_terms L)) bytes C blocks → FitFlows M (certificate_at plain_rule (automaton_of M) C).flows → AcceptedBy (plain_pairs_at (with_terms lowest_terms L)) (model_bytes (rewritten_model M)) (certificate_bytes plain_rule.mark (rewritten_certificate M (certificate_at plain_rule (automaton_of M) C))) blocks
  plain-pair-rewritten C blocks b c f = rewritten-accepted (plain-rewritten f) C blocks b c

  -- and those with costs
  pub cost-pair-rewritten : (C blocks : List ℕ) → Bytes bytes → Bytes C → CostFileOf (with_terms any_terms L) bytes M → AcceptedBy (cost_pairs_at (with_terms any_terms L)) bytes C blocks → FitFlows M (certificate_at (cost_file (costs_in bytes)) (automaton_of M) C).flows → AcceptedBy (cost_pairs_at (with_terms lowest_terms L)) (cost_model_bytes (rewritten_model M) (costs_in bytes)) (certificate_bytes (cost_file (costs_in bytes)).mark (rewritten_certificate M (certificate_at (cost_file (costs_in bytes)) (automaton_of M) C))) blocks
  cost-pair-rewritten C blocks b c f = rewritten-accepted (cost-rewritten f) C blocks b c
