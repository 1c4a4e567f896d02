-- Each original transition has one of its block that is kept, with the same action and probabilities; each that is kept comes from an
-- original; and no two of a block that are kept are the same.
use Prim.Native.Nat.{ℕ, zero, suc, ◌+◌, ◌*◌, ◌≤◌, ◌<◌}
use Rattle.std.specs.Prelude.{◌≡◌, ◌⊎◌, length, get_or}
use Rattle.std.proofs.Math.Path.{refl, sym, ap}
use Rattle.std.proofs.Common.{◌∙◌, subst, arith}
use mathlib.Core.List.{List, [], ◌∷◌, ◌++◌}
use Rattle.std.proofs.Math.Decide.{ℕ_discrete}
use Rattle.bisimulation.specs.definitions.Choice.{if_same}
use Rattle.bisimulation.proofs.argument.ChoiceLaws.{same}
use Rattle.bisimulation.specs.definitions.Automaton.{Automaton}
use Rattle.bisimulation.specs.definitions.StandsFor.{weight_into, StandsFor, StandForEachOther, NoTwoSame}
use Rattle.rules.specs.definitions.Limits.{Limits}
use Rattle.rules.specs.definitions.Model.{Transition, Model, weight_of, no_transition, automaton_of}
use Rattle.rules.specs.definitions.LowestTerms.{in_lowest}
use Rattle.rules.specs.definitions.SoundModel.{Each, TransitionRules, SoundModel}
use Rattle.rules.specs.definitions.BlockCount.{block_count}
use Rattle.quotient.specs.definitions.Quotient.{added_up, merged_transition, from_block, distinct, by_block, quotient}
use Rattle.rules.proofs.argument.SoundModelLaws.{each_at, at_each, each_map, each_append, each-parts, from-along}
use Rattle.quotient.proofs.argument.KeyedSums.{each_all}
use Rattle.quotient.proofs.argument.SameTransitions.{Same, Positive, same-itself, same-turned, same-through, each-covered, distinct_apart}
use Rattle.quotient.proofs.argument.Lists.{Some, some-each, some_first, some-second, some_at, Pairwise, pairwise_append, pairwise_map, pairwise-at}
use Rattle.rules.proofs.argument.NumberedBlocks.{NumberedBlocks}
use Rattle.quotient.proofs.argument.QuotientLaws.{weight-at, weights-into, each-distinct, each_from, each-by-block, merged-rules, merged-same, merged-below, merged-states}

module _ (blocks : List ℕ) where
  abbrev block_from : Transition → ℕ
  block_from t = get_or blocks t.source 0

  -- a transition that leaves the block is one of the block's
  pub from_each : (P : Transition → Type 0) (b : ℕ) (ts : List Transition) → Each P (from_block blocks ts b) → (r : ℕ) → r < length ts → block_from (get_or ts r no_transition) ≡ b → P (merged_transition blocks (get_or ts r no_transition))
  unfolding from_block Each
  from_each P b [] h r less e = absurd (omega arith)
  from_each P b (t ∷ ts) h zero less e =
      let own = (each-parts P (if_same (block_from t) b (merged_transition blocks t ∷ []) []) (from_block blocks ts b) h).0 in
      (subst (Each P) (sym (same [] e refl)) own).0
  from_each P b (t ∷ ts) h (suc r) less e =
      from_each P b ts (each-parts P (if_same (block_from t) b (merged_transition blocks t ∷ []) []) (from_block blocks ts b) h).1 r (omega arith) e

  -- what some of a block's has, some of all has
  pub some-by-block : (P : Transition → Type 0) (ts : List Transition) (left b c : ℕ) → b ≤ c → c < b + left → Some P (distinct (block_count blocks) [] (from_block blocks ts c)) → Some P (by_block blocks ts left b)
  unfolding by_block
  some-by-block P ts zero b c from less s = absurd (omega arith)
  some-by-block P ts (suc left) b c from less s = go (ℕ_discrete c b) (λ above. some-by-block P ts left (b + 1) c (omega arith) (omega arith) s)
    where
      go : Dec (c ≡ b) → (b < c → Some P (by_block blocks ts left (b + 1))) → Some P (distinct (block_count blocks) [] (from_block blocks ts b) ++ by_block blocks ts left (b + 1))
      go (yes e) later = some_first P _ (by_block blocks ts left (b + 1)) (subst (λ (x : ℕ). Some P (distinct (block_count blocks) [] (from_block blocks ts x))) e s)
      go (no n) later = some-second P (distinct (block_count blocks) [] (from_block blocks ts b)) _ (later (omega arith))

  -- no source is below the first block
  sources-least : (ts : List Transition) (left b : ℕ) → Each (λ (t : Transition). b ≤ t.source) (by_block blocks ts left b)
  unfolding by_block merged_transition in_lowest added_up
  sources-least ts zero b = unfold Each in tt
  sources-least ts (suc left) b =
      each_append _ (distinct (block_count blocks) [] (from_block blocks ts b)) (by_block blocks ts left (b + 1))
      (each-distinct (block_count blocks) _ [] (from_block blocks ts b) (each_from blocks _ b ts (each_all _ (λ t e. omega (arith, e)) ts)))
      (each_map _ _ (λ t h. omega (arith, h)) (by_block blocks ts left (b + 1)) (sources-least ts left (b + 1)))

  -- transitions of one source that are the same as none other
  abbrev Apart : Transition → Transition → Type 0
  Apart t u = t.source ≡ u.source → Same (block_count blocks) t u → ⊥

  pub kept-apart : (ts : List Transition) (left b : ℕ) → Pairwise Apart (by_block blocks ts left b)
  unfolding by_block merged_transition in_lowest added_up
  kept-apart ts zero b = unfold Pairwise in tt
  kept-apart ts (suc left) b =
      let later = by_block blocks ts left (b + 1) in
      let sources : Each (λ (t : Transition). t.source ≡ b) (distinct (block_count blocks) [] (from_block blocks ts b)) =
      each-distinct (block_count blocks) _ [] (from_block blocks ts b) (each_from blocks _ b ts (each_all _ (λ t e. e) ts)) in
      pairwise_append Apart (distinct (block_count blocks) [] (from_block blocks ts b)) later
      (pairwise_map _ Apart (λ t u h e s. h s) (distinct (block_count blocks) [] (from_block blocks ts b)) (distinct_apart (block_count blocks) (from_block blocks ts b)))
      (kept-apart ts left (b + 1))
      (each_map _ _ (λ t e. each_map _ _ (λ u from one s. absurd (omega (arith, e, from, one))) later (sources-least ts left (b + 1))) (distinct (block_count blocks) [] (from_block blocks ts b)) sources)

module _ (L : Limits) (M : Model) (ok : SoundModel L M) (blocks : List ℕ) (named : NumberedBlocks M blocks) where
  abbrev ts : List Transition
  ts = M.transitions

  abbrev k : ℕ
  k = block_count blocks

  abbrev block : ℕ → ℕ
  block v = get_or blocks v 0

  abbrev A : Automaton
  A = automaton_of M

  abbrev Q : Automaton
  Q = automaton_of (quotient M blocks)

  module _ (r : ℕ) (below : r < length ts) where
    abbrev original : Transition
    original = get_or ts r no_transition

    rules : TransitionRules (length M.labels) M.actions original
    rules = each_at _ ts r no_transition ok.transitions below

    -- what its weights added up lead to a block with
    added-into : (c : ℕ) → c < k → weight_of (added_up blocks original).entries c ≡ weight_into A block r c
    unfolding added_up weight_into automaton_of
    added-into c less =
        weight-at blocks original.entries k 0 c (omega arith) (omega arith)
        ∙ weights-into blocks (length M.labels) original.entries 0 (from-along _ _ original.entries rules.ascend) rules.states c

    -- one that is the same stands for it
    stands : (q : ℕ) → (get_or (quotient M blocks).transitions q no_transition).source ≡ block original.source → Same k (merged_transition blocks original) (get_or (quotient M blocks).transitions q no_transition) → StandsFor A Q block q r
    unfolding automaton_of added_up
    stands q from s =
        let own = merged-rules blocks (length M.labels) M.actions original rules (merged-below L M ok blocks named) in
        let added = same-through k own.positive (same-turned k (merged-same blocks (length M.labels) M.actions original rules (merged-below L M ok blocks named))) s in
        record {
          source = from;
          action = sym added.action;
          probability = λ c less.
              let below-count : c < k = omega (arith, less, merged-states L M ok blocks named) in
              sym (added.probability c below-count) ∙ ap (λ (x : ℕ). x * Q.denominator q) (added-into c below-count);
        }

  -- an original transition's block is one of the merged states
  block_of : (r : ℕ) (below : r < length ts) → block (get_or ts r no_transition).source < k
  block_of r below = merged-below L M ok blocks named _ (rules r below).source

  -- of the transitions of its block that are kept, one is the same
  kept_of : (r : ℕ) → r < length ts → Some (λ (m : Transition). Same k (merged_transition blocks (get_or ts r no_transition)) m × (m.source ≡ block (get_or ts r no_transition).source)) (quotient M blocks).transitions
  unfolding quotient merged_transition in_lowest added_up
  kept_of r below =
      let b = block (get_or ts r no_transition).source in
      let positive : Each Positive (from_block blocks ts b) = each_from blocks Positive b ts (each_map _ _ (λ t rules e. (merged-rules blocks (length M.labels) M.actions t rules (merged-below L M ok blocks named)).positive) ts ok.transitions) in
      let same_kept = from_each blocks _ b ts (each-covered k (from_block blocks ts b) positive) r below refl in
      let sources : Each (λ (m : Transition). m.source ≡ b) (distinct k [] (from_block blocks ts b)) =
      each-distinct k _ [] (from_block blocks ts b) (each_from blocks _ b ts (each_all _ (λ t e. e) ts)) in
      some-by-block blocks _ ts k 0 b (omega arith) (omega (arith, block_of r below)) (some-each _ _ _ same_kept sources)

  -- every merged transition is an original one merged
  comes-from : Each (λ (m : Transition). (r : ℕ) × (r < length ts) × (m ≡ merged_transition blocks (get_or ts r no_transition))) (quotient M blocks).transitions
  unfolding quotient
  comes-from = each-by-block blocks ts _ (at_each _ ts no_transition (λ r below. (r, below, refl))) k 0

  pub stand-for-each-other : StandForEachOther A Q block
  unfolding automaton_of merged_transition in_lowest added_up
  stand-for-each-other =
      record {
        kept = λ r below.
            let s = some_at _ (quotient M blocks).transitions no_transition (kept_of r below) in
            (s.0, s.1, stands r below s.0 s.2.1 s.2.0);
        comes = λ q below.
            let c = each_at _ (quotient M blocks).transitions q no_transition comes-from below in
            let e = sym c.2 in
            (c.0, c.1, stands c.0 c.1 q (ap (λ (t : Transition). t.source) c.2) (subst (Same k (merged_transition blocks (get_or ts c.0 no_transition))) e (same-itself k _)));
      }

  pub no-two-same : NoTwoSame Q
  unfolding automaton_of quotient
  no-two-same =
      record {
        apart = λ q r before below source action probability.
            pairwise-at (Apart blocks) (by_block blocks ts k 0) no_transition (kept-apart blocks ts k 0) q r before below source
            (record { action = action; probability = λ c less. probability c (omega (arith, less, merged-states L M ok blocks named)) });
      }
