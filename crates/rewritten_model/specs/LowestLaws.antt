-- What is written of a sound model's file is the file of the model in lowest terms, and what stood behind the model stays.
use Rattle.std.specs.Prelude.{ℕ, ◌+◌, ◌≡◌, List, [], ◌++◌, length, take, drop}
use Rattle.std.proofs.Math.Path.{refl}
use Rattle.std.proofs.Common.{sym, ◌∙◌, ap, ap₂, append-nil, length-append, take_at, drop_at, arith}
use Rattle.rules.specs.definitions.Limits.{Limits}
use Rattle.rules.specs.definitions.Model.{Model, transitions_bytes, model_bytes}
use Rattle.rules.specs.definitions.SoundModel.{FitsWidths}
use Rattle.rules.specs.definitions.LowestTerms.{in_lowest}
use Rattle.rules.specs.definitions.Reading.{states_of, count_of, model_at, place_of}
use Rattle.rules.proofs.argument.TermsLaws.{lowest-count}
use Rattle.cost_files.specs.definitions.CostModel.{costs_bytes, cost_model_bytes, CostFileOf, costs_in}
use Rattle.cost_files.proofs.argument.CostReadingLaws.{costs-in}
use Rattle.transition.specs.Known.{Known}
use Rattle.writer.specs.ChangedRecords.{front_bytes, front-then, front-size, front-changed, changed-end}
use Rattle.rewriting.specs.definitions.Rewritten.{rewritten_model}
use Rattle.rewriting.proofs.argument.RewrittenFiles.{rewritten-length}
use Rattle.rewritten_model.specs.Lowest.{lowest_records, lowest_file}

-- what stands before the records stays
front-rewritten : (M : Model) → front_bytes (rewritten_model M) ≡ front_bytes M
unfolding rewritten_model
front-rewritten M = front-changed in_lowest M

module _ {s table : List ℕ} {n count : ℕ} (k : Known s n count table) where
  front-is : length (front_bytes (model_at s)) ≡ 8 + states_of s
  front-is = front-size s (omega (arith, k.labels, k.states))

  records-are : transitions_bytes (rewritten_model (model_at s)).transitions ≡ lowest_records s
  unfolding rewritten_model
  records-are = refl

  -- the records end where the model's bytes end
  model-end : length (model_bytes (model_at s)) ≡ place_of s (count_of s)
  model-end =
      let N = rewritten_model (model_at s) in
      let all : length (model_bytes N) ≡ length (front_bytes N) + length (transitions_bytes N.transitions) =
      ap length (sym (append-nil (model_bytes N)) ∙ front-then N [] ∙ ap (λ (l : List ℕ). front_bytes N ++ l) (append-nil (transitions_bytes N.transitions))) ∙ length-append (front_bytes N) (transitions_bytes N.transitions) in
      omega (arith, rewritten-length (model_at s), all, ap length (front-rewritten (model_at s)), front-is, ap length records-are, changed-end in_lowest lowest-count s)

  -- a file that starts with a sound model
  lowest-then : (rest : List ℕ) → s ≡ model_bytes (model_at s) ++ rest → lowest_file s ≡ model_bytes (rewritten_model (model_at s)) ++ rest
  lowest-then rest e =
      let M = model_at s in
      let front : take (8 + states_of s) s ≡ front_bytes M =
      ap (take (8 + states_of s)) (e ∙ front-then M rest) ∙ take_at (front_bytes M) (transitions_bytes M.transitions ++ rest) (8 + states_of s) front-is in
      let tail : drop (place_of s (count_of s)) s ≡ rest = ap (drop (place_of s (count_of s))) e ∙ drop_at (model_bytes M) rest (place_of s (count_of s)) model-end in
      ap₂ (λ (l r : List ℕ). l ++ (lowest_records s ++ r)) (front ∙ sym (front-rewritten M)) tail
      ∙ ap (λ (l : List ℕ). front_bytes (rewritten_model M) ++ (l ++ rest)) (sym records-are)
      ∙ sym (front-then (rewritten_model M) rest)

  -- the file of a model without costs
  pub lowest-model : s ≡ model_bytes (model_at s) → lowest_file s ≡ model_bytes (rewritten_model (model_at s))
  lowest-model e = lowest-then [] (e ∙ sym (append-nil (model_bytes (model_at s)))) ∙ append-nil (model_bytes (rewritten_model (model_at s)))

  -- the file of a model with costs, which stay
  pub lowest-costs : (costs : List ℕ) → s ≡ cost_model_bytes (model_at s) costs → lowest_file s ≡ cost_model_bytes (rewritten_model (model_at s)) costs
  unfolding cost_model_bytes
  lowest-costs costs e = lowest-then (costs_bytes costs) e

  -- they are those that stand in it
  pub lowest-cost-file : (L : Limits) → FitsWidths L → CostFileOf L s (model_at s) → lowest_file s ≡ cost_model_bytes (rewritten_model (model_at s)) (costs_in s)
  lowest-cost-file L fits f = lowest-costs f.costs f.encoded ∙ ap (cost_model_bytes (rewritten_model (model_at s))) (sym (costs-in L fits s (model_at s) f))
