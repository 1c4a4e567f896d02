-- Two models that hold one automaton, merged by one list of blocks, are one model: merged transitions are in lowest terms.
use Prim.Native.Nat.{ℕ, zero, suc, ◌+◌, ◌*◌, ◌<◌}
use Rattle.std.specs.Prelude.{◌≡◌}
use Rattle.std.proofs.Math.Path.{refl, sym, ap, ap₂}
use Rattle.std.proofs.Common.{◌∙◌, subst, arith}
use mathlib.Core.List.{List, [], ◌∷◌, ◌++◌}
use Rattle.std.proofs.Math.ListN.{length, get_or}
use Rattle.std.proofs.Math.Seq.{ext_get_or}
use Rattle.bisimulation.specs.definitions.Choice.{if_same}
use Rattle.bisimulation.proofs.argument.ChoiceLaws.{times_same}
use Rattle.bisimulation.proofs.argument.SumLaws.{sum_cong, sum_times_right}
use Rattle.rules.specs.definitions.Limits.{Limits}
use Rattle.rules.specs.definitions.Model.{Entry, Transition, Model, weight_of, no_transition, automaton_of, HoldOneAutomaton}
use Rattle.rules.specs.definitions.LowestTerms.{in_lowest}
use Rattle.rules.specs.definitions.SoundModel.{TransitionRules, SoundModel}
use Rattle.rules.specs.definitions.BlockCount.{block_count}
use Rattle.quotient.specs.definitions.Quotient.{block_labels, weight_to_block, added_up, merged_transition, from_block, distinct, by_block, quotient}
use Rattle.rules.proofs.argument.SoundModelLaws.{each_at, from-along}
use Rattle.quotient.proofs.argument.Lists.{Paired, at-paired}
use Rattle.quotient.proofs.argument.SameTransitions.{Same, same-turned, same-through}
use Rattle.quotient.proofs.argument.MergedTerms.{lowest-fields}
use Rattle.rules.proofs.argument.NumberedBlocks.{NumberedBlocks}
use Rattle.quotient.proofs.argument.QuotientLaws.{weight-at, weights-into, added-rules, merged-rules, merged-same, merged-lowest, merged-below}

module _ (blocks : List ℕ) where
  -- two transitions that leave one state, and that merged are one
  record MergesAlike (t u : Transition) : Type 0 where
    source : t.source ≡ u.source
    merged : merged_transition blocks t ≡ merged_transition blocks u

  from-alike : (ts us : List Transition) (b : ℕ) → Paired MergesAlike ts us → from_block blocks ts b ≡ from_block blocks us b
  unfolding Paired from_block
  from-alike [] [] b h = refl
  from-alike [] (u ∷ us) b h = absurd h
  from-alike (t ∷ ts) [] b h = absurd h
  from-alike (t ∷ ts) (u ∷ us) b h =
      ap₂ (λ (xs ys : List Transition). xs ++ ys)
      (ap₂ (λ (v : ℕ) (x : Transition). if_same (get_or blocks v 0) b (x ∷ []) []) h.0.source h.0.merged)
      (from-alike ts us b h.1)

  by-block-alike : (ts us : List Transition) → Paired MergesAlike ts us → (left b : ℕ) → by_block blocks ts left b ≡ by_block blocks us left b
  unfolding by_block
  by-block-alike ts us h zero b = refl
  by-block-alike ts us h (suc left) b =
      ap₂ (λ (xs ys : List Transition). distinct (block_count blocks) [] xs ++ ys) (from-alike ts us b h) (by-block-alike ts us h left (b + 1))

-- transitions with the same fields are one
fields-one : {t u : Transition} → t.source ≡ u.source → t.action ≡ u.action → t.denominator ≡ u.denominator → t.entries ≡ u.entries → t ≡ u
fields-one {t} {u} s a d e =
    ap₂ (λ (v w : ℕ). record { source = v; action = w; denominator = t.denominator; entries = t.entries }) s a
    ∙ ap₂ (λ (x : ℕ) (es : List Entry). record { source = u.source; action = u.action; denominator = x; entries = es }) d e

-- one transition of two spellings merges alike
module _ (blocks : List ℕ) (n m m' : ℕ) (t u : Transition) (rules : TransitionRules n m t) (rules' : TransitionRules n m' u) (below : (v : ℕ) → v < n → get_or blocks v 0 < block_count blocks) where
  into-respelled : ((v : ℕ) → v < n → weight_of t.entries v * u.denominator ≡ weight_of u.entries v * t.denominator) → (c : ℕ) → weight_to_block blocks t.entries c * u.denominator ≡ weight_to_block blocks u.entries c * t.denominator
  into-respelled h c =
      ap (λ (x : ℕ). x * u.denominator) (weights-into blocks n t.entries 0 (from-along _ _ t.entries rules.ascend) rules.states c)
      ∙ sym (sum_times_right n u.denominator _)
      ∙ sum_cong n _ _ (λ v l. times_same (get_or blocks v 0) c _ _ ∙ ap (λ (x : ℕ). if_same (get_or blocks v 0) c x 0) (h v l) ∙ sym (times_same (get_or blocks v 0) c _ _))
      ∙ sum_times_right n t.denominator _
      ∙ sym (ap (λ (x : ℕ). x * t.denominator) (weights-into blocks n u.entries 0 (from-along _ _ u.entries rules'.ascend) rules'.states c))

  -- added up they have the same probabilities
  added-alike : t.action ≡ u.action → ((v : ℕ) → v < n → weight_of t.entries v * u.denominator ≡ weight_of u.entries v * t.denominator) → Same (block_count blocks) (added_up blocks t) (added_up blocks u)
  unfolding added_up
  added-alike action h =
      record {
        action = action;
        probability = λ c less.
            ap (λ (x : ℕ). x * u.denominator) (weight-at blocks t.entries (block_count blocks) 0 c (omega arith) (omega arith))
            ∙ into-respelled h c
            ∙ sym (ap (λ (x : ℕ). x * t.denominator) (weight-at blocks u.entries (block_count blocks) 0 c (omega arith) (omega arith)));
      }

  -- so in lowest terms they are one
  merges-alike : t.source ≡ u.source → t.action ≡ u.action → ((v : ℕ) → v < n → weight_of t.entries v * u.denominator ≡ weight_of u.entries v * t.denominator) → MergesAlike blocks t u
  merges-alike source action h =
      let k = block_count blocks in
      let one = merged-rules blocks n m t rules below in
      let other = merged-rules blocks n m' u rules' below in
      let same = same-through k (added-rules blocks n m t rules below).positive (merged-same blocks n m t rules below)
      (same-through k (added-rules blocks n m' u rules' below).positive (added-alike action h) (same-turned k (merged-same blocks n m' u rules' below))) in
      let fields = lowest-fields k m m' (merged_transition blocks t) (merged_transition blocks u) one other (merged-lowest blocks n m t rules below) (merged-lowest blocks n m' u rules' below) same.probability in
      record { source = source; merged = fields-one (from source) same.action fields.0 fields.1 }
    where
      from : t.source ≡ u.source → (merged_transition blocks t).source ≡ (merged_transition blocks u).source
      from e = unfold merged_transition in_lowest added_up in ap (λ (v : ℕ). get_or blocks v 0) e

module _ (L : Limits) (M N : Model) (ok : SoundModel L M) (ok' : SoundModel L N) (one : HoldOneAutomaton M N) (blocks : List ℕ) (named : NumberedBlocks M blocks) where
  labels-one : M.labels ≡ N.labels
  unfolding HoldOneAutomaton automaton_of
  labels-one = ext_get_or 0 M.labels N.labels one.states (λ v l. one.label v l)

  transitions-alike : Paired (MergesAlike blocks) M.transitions N.transitions
  unfolding HoldOneAutomaton automaton_of
  transitions-alike =
      at-paired (MergesAlike blocks) M.transitions N.transitions no_transition one.transitions
      (λ q less.
      let other : q < length N.transitions = omega (arith, one.transitions) in
      merges-alike blocks (length M.labels) M.actions N.actions (get_or M.transitions q no_transition) (get_or N.transitions q no_transition)
      (each_at _ M.transitions q no_transition ok.transitions less)
      (subst (λ (n : ℕ). TransitionRules n N.actions (get_or N.transitions q no_transition)) (sym one.states) (each_at _ N.transitions q no_transition ok'.transitions other))
      (merged-below L M ok blocks named) (one.source q less) (one.action q less) (λ v l. one.probability q v less l))

  -- so the merged models are one
  pub merged-one : quotient M blocks ≡ quotient N blocks
  unfolding HoldOneAutomaton automaton_of quotient
  merged-one =
      let k = block_count blocks in
      ap (λ (m : ℕ). record { actions = m; labels = block_labels blocks M.labels k 0; transitions = by_block blocks M.transitions k 0 }) one.actions
      ∙ ap (λ (l : List ℕ). record { actions = N.actions; labels = block_labels blocks l k 0; transitions = by_block blocks M.transitions k 0 }) labels-one
      ∙ ap (λ (ts : List Transition). record { actions = N.actions; labels = block_labels blocks N.labels k 0; transitions = ts }) (by-block-alike blocks M.transitions N.transitions transitions-alike k 0)
