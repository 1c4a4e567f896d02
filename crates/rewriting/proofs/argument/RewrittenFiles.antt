-- The files of a rewritten model and certificate: a sound model in lowest terms that holds the same automaton, and as many bytes.
use Rattle.std.specs.Prelude.{ℕ, ◌+◌, ◌<◌, ◌≡◌, refl, List, [], ◌∷◌, ◌++◌, map, length}
use Rattle.std.proofs.lemmas.List.{length-map}
use Rattle.std.proofs.Common.{length-append, arith}
use Rattle.rules.specs.definitions.Limits.{Terms, lowest_terms, Limits, with_terms}
use Rattle.rules.specs.definitions.Bytes.{byte_at, two_bytes}
use Rattle.rules.specs.definitions.Model.{Transition, Model, model_bytes, HoldOneAutomaton}
use Rattle.rules.specs.definitions.SoundModel.{Each, Bytes, HasTerms, SoundModel, FitsWidths, entry_count}
use Rattle.rules.specs.definitions.LowestTerms.{in_lowest}
use Rattle.rules.specs.definitions.Encoding.{FlowRecord, Certificate, list_bytes, refutation_bytes, blocks_bytes, flow_bytes, certificate_bytes}
use Rattle.rules.proofs.argument.SoundModelLaws.{each_at, at_each, each_map, each_append, sound-bytes}
use Rattle.rules.proofs.argument.MappedLists.{each-mapped, along-mapped, sum-mapped}
use Rattle.rules.proofs.argument.TermsLaws.{lowest-count, lowest-source, lowest-rules, lowest-terms}
use Rattle.rules.proofs.argument.LengthLaws.{file-length}
use Rattle.rules.proofs.argument.FlowRecords.{length-flow}
use Rattle.cost_files.specs.definitions.CostModel.{RightCosts, costs_bytes, cost_model_bytes}
use Rattle.rewriting.specs.definitions.Rewritten.{rewritten_model, rewritten_k, rewritten_flow, rewritten_certificate}
use Rattle.rewriting.proofs.argument.RewrittenKept.{rewritten-divided, divided-same}

-- as many transitions, and entries
pub rewritten-count : (M : Model) → length (rewritten_model M).transitions ≡ length M.transitions
unfolding rewritten_model
rewritten-count M = length-map M.transitions in_lowest

rewritten-entries : (M : Model) → entry_count (rewritten_model M) ≡ entry_count M
unfolding rewritten_model
rewritten-entries M = sum-mapped in_lowest (λ (t : Transition). length t.entries) _ lowest-count M.transitions

-- a sound model, rewritten, is sound in lowest terms
pub rewritten-sound : (terms : Terms) (L : Limits) (M : Model) → SoundModel (with_terms terms L) M → SoundModel (with_terms lowest_terms L) (rewritten_model M)
unfolding rewritten_model HasTerms
rewritten-sound terms L M s =
    record {
      some_state = s.some_state;
      states = s.states;
      some_action = s.some_action;
      actions = s.actions;
      count = omega (arith, rewritten-count M, s.count);
      labels = s.labels;
      transitions = each-mapped in_lowest _ _ (λ t rules. lowest-rules t rules) M.transitions s.transitions;
      sources = along-mapped in_lowest _ _ (λ t u le. omega (arith, lowest-source t, lowest-source u, le)) M.transitions s.sources;
      entries = omega (arith, rewritten-entries M, s.entries);
      terms = each-mapped in_lowest _ _ (λ t rules. lowest-terms t rules) M.transitions s.transitions;
    }

-- it holds the same automaton
pub rewritten-one : (L : Limits) (M : Model) → SoundModel L M → HoldOneAutomaton M (rewritten_model M)
unfolding HoldOneAutomaton
rewritten-one L M s = divided-same (rewritten-divided L M s)

-- its file has as many bytes
pub rewritten-length : (M : Model) → length (model_bytes (rewritten_model M)) ≡ length (model_bytes M)
unfolding rewritten_model
rewritten-length M = omega (arith, file-length M, file-length (rewritten_model M), rewritten-count M, rewritten-entries M)

-- and so has the file with costs
pub rewritten-costs-length : (M : Model) (costs : List ℕ) → length (cost_model_bytes (rewritten_model M) costs) ≡ length (cost_model_bytes M costs)
unfolding cost_model_bytes
rewritten-costs-length M costs =
    omega (arith, rewritten-length M, length-append (model_bytes M) (costs_bytes costs), length-append (model_bytes (rewritten_model M)) (costs_bytes costs))

-- a flow, and the certificate
flow-length : (M : Model) (f : FlowRecord) → length (flow_bytes (rewritten_flow M f)) ≡ length (flow_bytes f)
unfolding rewritten_flow
flow-length M f = omega (arith, length-flow f, length-flow (rewritten_flow M f), length-map f.ks (rewritten_k M))

flows-length : (M : Model) (fs : List FlowRecord) → length (list_bytes flow_bytes (map (rewritten_flow M) fs)) ≡ length (list_bytes flow_bytes fs)
unfolding list_bytes
flows-length M [] = refl
flows-length M (f ∷ fs) =
    omega (
      arith,
      length-append (flow_bytes f) (list_bytes flow_bytes fs),
      length-append (flow_bytes (rewritten_flow M f)) (list_bytes flow_bytes (map (rewritten_flow M) fs)),
      flow-length M f,
      flows-length M fs,
    )

pub rewritten-certificate-length : (M : Model) (mark : ℕ) (K : Certificate) → length (certificate_bytes mark (rewritten_certificate M K)) ≡ length (certificate_bytes mark K)
unfolding certificate_bytes rewritten_certificate
rewritten-certificate-length M mark K =
    let body : (fs : List FlowRecord) → length (list_bytes refutation_bytes K.refutations ++ (blocks_bytes K.blocks ++ list_bytes flow_bytes fs)) ≡ length (list_bytes refutation_bytes K.refutations) + (length (blocks_bytes K.blocks) + length (list_bytes flow_bytes fs)) =
    λ fs. omega (arith, length-append (list_bytes refutation_bytes K.refutations) (blocks_bytes K.blocks ++ list_bytes flow_bytes fs), length-append (blocks_bytes K.blocks) (list_bytes flow_bytes fs)) in
    let whole : (tail : List ℕ) → length (two_bytes mark ++ (two_bytes (length K.refutations) ++ tail)) ≡ length (two_bytes mark) + (length (two_bytes (length K.refutations)) + length tail) =
    λ tail. omega (arith, length-append (two_bytes mark) (two_bytes (length K.refutations) ++ tail), length-append (two_bytes (length K.refutations)) tail) in
    omega (
      arith,
      whole (list_bytes refutation_bytes K.refutations ++ (blocks_bytes K.blocks ++ list_bytes flow_bytes (map (rewritten_flow M) K.flows))),
      whole (list_bytes refutation_bytes K.refutations ++ (blocks_bytes K.blocks ++ list_bytes flow_bytes K.flows)),
      body (map (rewritten_flow M) K.flows),
      body K.flows,
      flows-length M K.flows,
    )

-- the file of a sound model with costs is bytes
pub cost-bytes : (L : Limits) (M : Model) (costs : List ℕ) → FitsWidths L → SoundModel L M → RightCosts M costs → Bytes (cost_model_bytes M costs)
unfolding Bytes byte_at cost_model_bytes costs_bytes Each
cost-bytes L M costs fits sound right i less =
    each_at (λ (b : ℕ). b < 256) (cost_model_bytes M costs) i 0
    (each_append (λ (b : ℕ). b < 256) (model_bytes M) (costs_bytes costs) (at_each (λ (b : ℕ). b < 256) (model_bytes M) 0 (sound-bytes L M fits sound))
    (omega arith, (omega arith, each_map _ (λ (b : ℕ). b < 256) (λ b h. omega (arith, h)) costs right.most)))
    less
