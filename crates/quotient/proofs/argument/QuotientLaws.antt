-- Laws of the merged model: it is sound, its file is read back and is no longer than the model's, and it has one state for each block.
use Prim.Native.Nat.{ℕ, zero, suc, ◌+◌, ◌≤◌, ◌<◌}
use Rattle.std.specs.Prelude.{◌≡◌}
use Rattle.std.proofs.Math.Path.{refl, sym, ap, ap₂, subst}
use Rattle.std.proofs.Common.{◌∙◌, length-append, add-zero}
use mathlib.Core.List.{List, [], ◌∷◌, ◌++◌}
use Rattle.std.proofs.Math.ListN.{length, get_or}
use Rattle.std.proofs.Math.Decide.{ℕ_discrete}
use native.Mathlib.Omega.{arith}
use Rattle.bisimulation.specs.definitions.Choice.{if_same, if_true}
use Rattle.bisimulation.proofs.argument.ChoiceLaws.{same, not_same, either_same, either_true}
use Rattle.bisimulation.specs.definitions.Sum.{sum}
use Rattle.bisimulation.proofs.argument.SumLaws.{sum_cong, sum_zero}
use Rattle.rules.specs.definitions.Limits.{Limits}
use Rattle.rules.specs.definitions.Bytes.{two_bytes}
use Rattle.rules.specs.definitions.Model.{Entry, Transition, Model, weight_of, transition_bytes, transitions_bytes, head_bytes, labels_bytes, model_bytes}
use Rattle.rules.specs.definitions.LowestTerms.{in_lowest}
use Rattle.rules.specs.definitions.Reading.{read_whole, model}
use Rattle.rules.specs.definitions.SoundModel.{Each, sum_over, TransitionRules, LowestTerms, SoundModel, FitsWidths}
use Rattle.rules.proofs.argument.SoundModelLaws.{each_map, each_append, From, from-lower, along-from, StatesFrom, SourcesFrom, no-weight, sum-with, lowest-has}
use Rattle.rules.proofs.argument.ReadBack.{transition_bytes-length, read-back-whole}
use Rattle.rules.proofs.argument.LargestBlocks.{Numbered}
use Rattle.rules.proofs.argument.NumberedBlocks.{block-below, count-some, count_most, each-block, NumberedBlocks}
use Rattle.rules.specs.definitions.BlockCount.{block_count}
use Rattle.quotient.specs.definitions.Quotient.{label_of_block, block_labels, weight_to_block, block_entries, added_up, merged_transition, from_block, is_among, distinct, by_block, quotient, merged_file}
use Rattle.quotient.proofs.argument.MergedTerms.{lowest-alike}
use Rattle.rules.proofs.argument.TermsLaws.{lowest-rules, lowest-count, lowest-terms}
use Rattle.quotient.proofs.argument.SameTransitions.{Same}
use Rattle.quotient.proofs.argument.KeyedSums.{which_same, in_same, sum-next, each_all, sum_over-append, sum_over-most, sum_over-length, sum_over-some, sum_at, sum_at-all, sum_at-some}

-- the labels of the blocks are labels of states
label-of-block : (highest : ℕ) (blocks labels : List ℕ) (b : ℕ) → Each (λ (l : ℕ). l ≤ highest) labels → label_of_block blocks labels b ≤ highest
unfolding label_of_block Each
label-of-block highest [] labels b h = omega arith
label-of-block highest (x ∷ xs) [] b h = omega arith
label-of-block highest (x ∷ xs) (l ∷ ls) b h =
    either_same (λ (c : ℕ). c ≤ highest) x b h.0 (label-of-block highest xs ls b h.1)

labels-of-blocks : (highest : ℕ) (blocks labels : List ℕ) → Each (λ (l : ℕ). l ≤ highest) labels → (left b : ℕ) → Each (λ (l : ℕ). l ≤ highest) (block_labels blocks labels left b)
unfolding block_labels Each
labels-of-blocks highest blocks labels h zero b = tt
labels-of-blocks highest blocks labels h (suc left) b =
    (label-of-block highest blocks labels b h, labels-of-blocks highest blocks labels h left (b + 1))

labels-count : (blocks labels : List ℕ) (left b : ℕ) → length (block_labels blocks labels left b) ≡ left
unfolding block_labels
labels-count blocks labels zero b = refl
labels-count blocks labels (suc left) b = omega (arith, labels-count blocks labels left (b + 1))

-- the label at a block's place
label_at : (blocks labels : List ℕ) (left b i : ℕ) → i < left → get_or (block_labels blocks labels left b) i 0 ≡ label_of_block blocks labels (b + i)
unfolding block_labels
label_at blocks labels zero b i h = absurd (omega arith)
label_at blocks labels (suc left) b zero h = let e : b ≡ b + 0 = omega arith in ap (label_of_block blocks labels) e
label_at blocks labels (suc left) b (suc i) h =
    let e : b + 1 + i ≡ b + suc i = omega arith in label_at blocks labels left (b + 1) i (omega arith) ∙ ap (label_of_block blocks labels) e

-- a block's label is that of one of its members
record MembersLabel (blocks labels : List ℕ) (b : ℕ) : Type 0 where
  member : ℕ
  below : member < length blocks
  of : get_or blocks member 0 ≡ b
  label : label_of_block blocks labels b ≡ get_or labels member 0

members-label : (blocks labels : List ℕ) (b v : ℕ) → length blocks ≡ length labels → v < length blocks → get_or blocks v 0 ≡ b → MembersLabel blocks labels b
unfolding label_of_block
members-label [] labels b v e h f = absurd (omega arith)
members-label (x ∷ xs) [] b v e h f = absurd (omega arith)
members-label (x ∷ xs) (l ∷ ls) b v e h f = go (ℕ_discrete x b) (λ w k g. members-label xs ls b w (omega arith) k g)
  where
    Rest : Type 0
    Rest = (w : ℕ) → w < length xs → get_or xs w 0 ≡ b → MembersLabel xs ls b

    later : Rest → (x ≡ b → ⊥) → (w : ℕ) → w < length (x ∷ xs) → get_or (x ∷ xs) w 0 ≡ b → MembersLabel (x ∷ xs) (l ∷ ls) b
    later rest n zero k g = absurd (n g)
    later rest n (suc w) k g =
        let t = rest w (omega arith) g in
        unfold label_of_block in
        record { member = suc t.member; below = omega (arith, t.below); of = t.of; label = sym (not_same l n (sym t.label)) }

    go : Dec (x ≡ b) → Rest → MembersLabel (x ∷ xs) (l ∷ ls) b
    go (yes s) rest = unfold label_of_block in record { member = 0; below = omega arith; of = s; label = sym (same _ s refl) }
    go (no n) rest = later rest n v h f

-- one transition's entries
module _ (blocks : List ℕ) where
  abbrev block_of : Entry → ℕ
  block_of e = get_or blocks e.state 0

  weight-added : (es : List Entry) (b : ℕ) → weight_to_block blocks es b ≡ sum_at block_of (λ (e : Entry). e.weight) es b
  unfolding weight_to_block sum_over
  weight-added [] b = refl
  weight-added (e ∷ es) b = omega (arith, weight-added es b)

  -- the entries to the blocks from b up to `end`, against the sums over the blocks before b and before `end`
  record EntriesTo (es : List Entry) (b end : ℕ) (xs : List Entry) : Type 0 where
    from : StatesFrom b xs
    states : Each (λ (e : Entry). e.state < end) xs
    weights : Each (λ (e : Entry). 1 ≤ e.weight) xs
    most : b + length xs ≤ end
    whole : sum b (weight_to_block blocks es) + sum_over (λ (e : Entry). e.weight) xs ≡ sum end (weight_to_block blocks es)
    few : sum b (sum_at block_of (λ e. 1) es) + length xs ≤ sum end (sum_at block_of (λ e. 1) es)

  entries-to : (es : List Entry) (left b end : ℕ) → b + left ≡ end → EntriesTo es b end (block_entries blocks es left b)
  unfolding block_entries From Each sum_over sum
  entries-to es zero b end is_end =
      let here : b ≡ end = omega arith in
      subst (λ (k : ℕ). EntriesTo es b k []) here
      (record { from = tt; states = tt; weights = tt; most = omega arith; whole = omega arith; few = omega arith })
  entries-to es (suc left) b end is_end =
      let rest = entries-to es left (b + 1) end (omega arith) in
      let later = block_entries blocks es left (b + 1) in
      let weight = weight_to_block blocks es b in
      let without : weight ≡ 0 → EntriesTo es b end later = λ none.
      record {
        from = from-lower _ _ later b (b + 1) (omega arith) rest.from;
        states = rest.states;
        weights = rest.weights;
        most = omega (arith, rest.most);
        whole = omega (arith, rest.whole, sum-next b (weight_to_block blocks es));
        few = omega (arith, rest.few, sum-next b (sum_at block_of (λ e. 1) es));
      } in
      let with : (weight ≡ 0 → ⊥) → EntriesTo es b end (record { state = b; weight = weight } ∷ later) = λ some.
      record {
        from = (omega arith, from-lower _ _ later (suc b) (b + 1) (omega arith) rest.from);
        states = (omega arith, rest.states);
        weights = (omega arith, rest.weights);
        most = omega (arith, rest.most);
        whole = omega (arith, rest.whole, sum-next b (weight_to_block blocks es));
        few = omega (arith, rest.few, sum-next b (sum_at block_of (λ e. 1) es), sum_at-some block_of (λ (e : Entry). e.weight) es b (omega (arith, weight-added es b)));
      } in
      which_same (λ (xs : List Entry). EntriesTo es b end (xs ++ later)) weight 0 without with

  -- the weight of a block's entry is what is added up to it
  pub weight-at : (es : List Entry) (left b c : ℕ) → b ≤ c → c < b + left → weight_of (block_entries blocks es left b) c ≡ weight_to_block blocks es c
  unfolding block_entries weight_of
  weight-at es zero b c from less = absurd (omega arith)
  weight-at es (suc left) b c from less = go (ℕ_discrete b c) (λ above. weight-at es left (b + 1) c (omega arith) (omega arith))
    where
      later : List Entry
      later = block_entries blocks es left (b + 1)

      weight : ℕ
      weight = weight_to_block blocks es b

      At : List Entry → Type 0
      At xs = weight_of (xs ++ later) c ≡ weight_to_block blocks es c

      go : Dec (b ≡ c) → (b < c → weight_of later c ≡ weight_to_block blocks es c) → At (if_same weight 0 [] (record { state = b; weight = weight } ∷ []))
      go (yes e) ih =
          let here : weight ≡ weight_to_block blocks es c = ap (weight_to_block blocks es) e in
          which_same At weight 0
          (λ none. no-weight later (b + 1) c (entries-to es left (b + 1) (b + 1 + left) refl).from (omega arith) ∙ sym none ∙ here)
          (λ some. unfold weight_of in sym (same (weight_of later c) e (sym here)))
      go (no n) ih =
          let rest = ih (omega arith) in
          which_same At weight 0 (λ none. rest) (λ some. unfold weight_of in sym (not_same weight n (sym rest)))

  -- it is the sum of the weights of the block's states
  pub weights-into : (n : ℕ) (es : List Entry) (lowest : ℕ) → StatesFrom lowest es → Each (λ (e : Entry). e.state < n) es → (c : ℕ) → weight_to_block blocks es c ≡ sum n (λ v. if_same (get_or blocks v 0) c (weight_of es v) 0)
  unfolding weight_to_block weight_of From Each
  weights-into n [] lowest from known c = sym (sum_zero n _ (λ v l. sym (either_same (λ (x : ℕ). 0 ≡ x) (get_or blocks v 0) c refl refl)))
  weights-into n (e ∷ es) lowest from known c =
      let f : ℕ → ℕ = λ v. if_same (get_or blocks v 0) c (weight_of es v) 0 in
      let own = if_same (get_or blocks e.state 0) c e.weight 0 in
      let none : f e.state ≡ 0 =
      ap (λ (x : ℕ). if_same (get_or blocks e.state 0) c x 0) (no-weight es (suc e.state) e.state from.1 (omega arith))
      ∙ sym (either_same (λ (x : ℕ). 0 ≡ x) (get_or blocks e.state 0) c refl refl) in
      ap (λ (x : ℕ). own + x) (weights-into n es (suc e.state) from.1 known.1 c)
      ∙ sym (sum-with e.state own f none n known.0)
      ∙ sum_cong n _ _ (λ v l. at v)
    where
      at : (v : ℕ) → if_same e.state v (if_same (get_or blocks e.state 0) c e.weight 0) (if_same (get_or blocks v 0) c (weight_of es v) 0) ≡ if_same (get_or blocks v 0) c (if_same e.state v e.weight (weight_of es v)) 0
      at v =
          which_same (λ (x : ℕ). x ≡ if_same (get_or blocks v 0) c (if_same e.state v e.weight (weight_of es v)) 0) e.state v
          (λ s. ap (λ (u : ℕ). if_same (get_or blocks u 0) c e.weight 0) s ∙ ap (λ (x : ℕ). if_same (get_or blocks v 0) c x 0) (same (weight_of es v) s refl))
          (λ n. ap (λ (x : ℕ). if_same (get_or blocks v 0) c x 0) (not_same e.weight n refl))

  -- a merged transition keeps the rules, with no more entries
  module _ (n m : ℕ) (t : Transition) (rules : TransitionRules n m t) (below : (v : ℕ) → v < n → get_or blocks v 0 < block_count blocks) where
    entry-blocks : Each (λ (e : Entry). block_of e < block_count blocks) t.entries
    entry-blocks = each_map _ _ (λ e h. below e.state h) t.entries rules.states

    merged-entries : EntriesTo t.entries 0 (block_count blocks) (block_entries blocks t.entries (block_count blocks) 0)
    merged-entries = entries-to t.entries (block_count blocks) 0 (block_count blocks) (omega arith)

    added-whole : sum_over (λ (e : Entry). e.weight) (added_up blocks t).entries ≡ t.denominator
    unfolding added_up sum
    added-whole =
        omega (arith, merged-entries.whole, sum_cong (block_count blocks) (weight_to_block blocks t.entries) (sum_at block_of (λ (e : Entry). e.weight) t.entries) (λ b l. weight-added t.entries b), sum_at-all block_of (λ (e : Entry). e.weight) (block_count blocks) t.entries entry-blocks, rules.whole)

    added-few : length (added_up blocks t).entries ≤ length t.entries
    unfolding added_up sum
    added-few =
        omega (arith, merged-entries.few, sum_at-all block_of (λ (e : Entry). 1) (block_count blocks) t.entries entry-blocks, sum_over-length t.entries)

    pub added-rules : TransitionRules (block_count blocks) m (added_up blocks t)
    unfolding added_up
    added-rules =
        record {
          source = below t.source rules.source;
          action = rules.action;
          positive = rules.positive;
          fits = rules.fits;
          some = sum_over-some (λ (e : Entry). e.weight) (added_up blocks t).entries (omega (arith, added-whole, rules.positive));
          most = omega (arith, merged-entries.most);
          states = merged-entries.states;
          ascend = along-from _ _ _ 0 merged-entries.from;
          weights = merged-entries.weights;
          whole = added-whole;
        }

    pub merged-rules : TransitionRules (block_count blocks) m (merged_transition blocks t)
    unfolding merged_transition
    merged-rules = lowest-rules (added_up blocks t) added-rules

    pub merged-few : length (merged_transition blocks t).entries ≤ length t.entries
    unfolding merged_transition
    merged-few = omega (arith, added-few, lowest-count (added_up blocks t))

    -- it is the same as its weights added up, in lowest terms
    pub merged-same : Same (block_count blocks) (merged_transition blocks t) (added_up blocks t)
    unfolding merged_transition
    merged-same = lowest-alike (block_count blocks) m (added_up blocks t) added-rules (block_count blocks)

    pub merged-lowest : LowestTerms (merged_transition blocks t)
    unfolding merged_transition
    merged-lowest = lowest-terms (added_up blocks t) added-rules

-- dropping what came before keeps each, and adds up to no more
pub each-distinct : (k : ℕ) (P : Transition → Type 0) (before ts : List Transition) → Each P ts → Each P (distinct k before ts)
unfolding distinct Each
each-distinct k P before [] h = tt
each-distinct k P before (t ∷ ts) h =
    each_append P (if_true (is_among k t before) [] (t ∷ [])) (distinct k (t ∷ before) ts)
    (either_true (Each P) (is_among k t before) {x = []} {y = t ∷ []} tt (h.0, tt)) (each-distinct k P (t ∷ before) ts h.1)

pub sum-distinct : (k : ℕ) (g : Transition → ℕ) (before ts : List Transition) → sum_over g (distinct k before ts) ≤ sum_over g ts
unfolding distinct sum_over
sum-distinct k g before [] = omega arith
sum-distinct k g before (t ∷ ts) =
    let ih = sum-distinct k g (t ∷ before) ts in
    either_true (λ (xs : List Transition). sum_over g (xs ++ distinct k (t ∷ before) ts) ≤ g t + sum_over g ts) (is_among k t before) (omega arith) (omega arith)

-- transitions of one source, before others of higher ones
sources-level : (b : ℕ) (ts us : List Transition) (low : ℕ) → low ≤ b → Each (λ (t : Transition). t.source ≡ b) ts → SourcesFrom (b + 1) us → SourcesFrom low (ts ++ us)
unfolding Each From
sources-level b [] us low le h k = from-lower _ _ us low (b + 1) (omega arith) k
sources-level b (t ∷ ts) us low le h k = (omega (arith, h.0), sources-level b ts us t.source (omega (arith, h.0)) h.1 k)

-- the merged transitions
module _ (blocks : List ℕ) where
  abbrev source_block : Transition → ℕ
  source_block t = get_or blocks t.source 0

  pub each_from : (P : Transition → Type 0) (b : ℕ) (ts : List Transition) → Each (λ (t : Transition). source_block t ≡ b → P (merged_transition blocks t)) ts → Each P (from_block blocks ts b)
  unfolding from_block Each
  each_from P b [] h = tt
  each_from P b (t ∷ ts) h =
      each_append P (if_same (source_block t) b (merged_transition blocks t ∷ []) []) (from_block blocks ts b)
      (which_same (Each P) (source_block t) b {x = merged_transition blocks t ∷ []} {y = []} (λ e. (h.0 e, tt)) (λ n. tt)) (each_from P b ts h.1)

  pub sum-from : (g : Transition → ℕ) (b : ℕ) (ts : List Transition) → sum_over g (from_block blocks ts b) ≡ sum_at source_block (λ (t : Transition). g (merged_transition blocks t)) ts b
  unfolding from_block sum_over
  sum-from g b [] = refl
  sum-from g b (t ∷ ts) =
      let m = merged_transition blocks t in
      let first : sum_over g (if_same (source_block t) b (m ∷ []) []) ≡ if_same (source_block t) b (g m) 0 =
      in_same (sum_over g) (source_block t) b (m ∷ []) [] ∙ ap (λ (k : ℕ). if_same (source_block t) b k 0) (add-zero (g m)) in
      sum_over-append g (if_same (source_block t) b (m ∷ []) []) (from_block blocks ts b) ∙ ap₂ ◌+◌ first (sum-from g b ts)

  module _ (ts : List Transition) where
    pub each-by-block : (P : Transition → Type 0) → Each (λ (t : Transition). P (merged_transition blocks t)) ts → (left b : ℕ) → Each P (by_block blocks ts left b)
    unfolding by_block Each
    each-by-block P h zero b = tt
    each-by-block P h (suc left) b =
        each_append P (distinct (block_count blocks) [] (from_block blocks ts b)) (by_block blocks ts left (b + 1))
        (each-distinct (block_count blocks) P [] (from_block blocks ts b) (each_from P b ts (each_map _ _ (λ t k e. k) ts h))) (each-by-block P h left (b + 1))

    sources-by-block : (left b : ℕ) → SourcesFrom b (by_block blocks ts left b)
    unfolding by_block From merged_transition in_lowest added_up
    sources-by-block zero b = tt
    sources-by-block (suc left) b =
        sources-level b (distinct (block_count blocks) [] (from_block blocks ts b)) (by_block blocks ts left (b + 1)) b (omega arith)
        (each-distinct (block_count blocks) _ [] (from_block blocks ts b) (each_from _ b ts (each_all _ (λ t e. e) ts))) (sources-by-block left (b + 1))

    pub sum-by-block : (g : Transition → ℕ) (left b end : ℕ) → b + left ≡ end → sum b (λ c. sum_over g (from_block blocks ts c)) + sum_over g (by_block blocks ts left b) ≤ sum end (λ c. sum_over g (from_block blocks ts c))
    unfolding by_block sum sum_over
    sum-by-block g zero b end is_end =
        let here : b ≡ end = omega arith in
        omega (arith, ap (λ (k : ℕ). sum k (λ c. sum_over g (from_block blocks ts c))) here)
    sum-by-block g (suc left) b end is_end =
        let parts : sum_over g (by_block blocks ts (suc left) b) ≡ sum_over g (distinct (block_count blocks) [] (from_block blocks ts b)) + sum_over g (by_block blocks ts left (b + 1)) =
        sum_over-append g (distinct (block_count blocks) [] (from_block blocks ts b)) (by_block blocks ts left (b + 1)) in
        omega (arith, parts, sum-by-block g left (b + 1) end (omega arith), sum-next b (λ c. sum_over g (from_block blocks ts c)), sum-distinct (block_count blocks) g [] (from_block blocks ts b))

    -- numbers that merging a transition does not raise add up to no more
    sum-merged : (g : Transition → ℕ) → Each (λ (t : Transition). source_block t < block_count blocks) ts → Each (λ (t : Transition). g (merged_transition blocks t) ≤ g t) ts → sum_over g (by_block blocks ts (block_count blocks) 0) ≤ sum_over g ts
    unfolding sum
    sum-merged g below most =
        let k = block_count blocks in
        let f : Transition → ℕ = λ t. g (merged_transition blocks t) in
        omega (arith, sum-by-block g k 0 k (omega arith), sum_cong k (λ c. sum_over g (from_block blocks ts c)) (sum_at source_block f ts) (λ b l. sum-from g b ts), sum_at-all source_block f k ts below, sum_over-most f g ts most)

-- how long a model's file is
pub transitions-length : (ts : List Transition) → length (transitions_bytes ts) ≡ sum_over (λ (t : Transition). length (transition_bytes t)) ts
unfolding transitions_bytes sum_over
transitions-length [] = refl
transitions-length (t ∷ ts) = omega (arith, length-append (transition_bytes t) (transitions_bytes ts), transitions-length ts)

model-length : (M : Model) → length (model_bytes M) ≡ 8 + (length M.labels + sum_over (λ (t : Transition). length (transition_bytes t)) M.transitions)
unfolding model_bytes head_bytes labels_bytes two_bytes
model-length M = omega (arith, length-append M.labels (transitions_bytes M.transitions), transitions-length M.transitions)

module _ (L : Limits) (M : Model) (ok : SoundModel L M) (blocks : List ℕ) (named : NumberedBlocks M blocks) where
  among : Numbered (length blocks) blocks
  among = subst (λ (n : ℕ). Numbered n blocks) (sym named.whole) named.numbered

  some : 1 ≤ length blocks
  some = omega (arith, named.whole, ok.some_state)

  -- every state's block is a state of the merged model
  pub merged-below : (v : ℕ) → v < length M.labels → get_or blocks v 0 < block_count blocks
  merged-below v l = block-below blocks v (omega (arith, named.whole))

  -- and every state of the merged model is a state's block
  pub merged-each : (b : ℕ) → b < block_count blocks → (v : ℕ) × (v < length M.labels) × (get_or blocks v 0 ≡ b)
  merged-each b l =
      let h = each-block blocks among some b l in
      (h.0, omega (arith, h.1, named.whole), h.2)

  -- as many states as there are blocks
  pub merged-states : length (quotient M blocks).labels ≡ block_count blocks
  unfolding quotient
  merged-states = labels-count blocks M.labels (block_count blocks) 0

  -- a state of the merged model has the label of each of its members, where members are labelled alike
  pub merged-label : ((u v : ℕ) → u < length blocks → v < length blocks → get_or blocks u 0 ≡ get_or blocks v 0 → get_or M.labels u 0 ≡ get_or M.labels v 0) → (v : ℕ) → v < length M.labels → get_or (quotient M blocks).labels (get_or blocks v 0) 0 ≡ get_or M.labels v 0
  unfolding quotient
  merged-label alike v h =
      let l : v < length blocks = omega (arith, h, named.whole) in
      let t = members-label blocks M.labels (get_or blocks v 0) v named.whole l refl in
      let z : 0 + get_or blocks v 0 ≡ get_or blocks v 0 = omega arith in
      label_at blocks M.labels (block_count blocks) 0 (get_or blocks v 0) (block-below blocks v l) ∙ ap (label_of_block blocks M.labels) z ∙ t.label ∙ alike t.member v t.below l t.of

  -- what merging does not raise in one transition
  merged-sum : (g : Transition → ℕ) → ((t : Transition) → TransitionRules (length M.labels) M.actions t → g (merged_transition blocks t) ≤ g t) → sum_over g (quotient M blocks).transitions ≤ sum_over g M.transitions
  unfolding quotient
  merged-sum g most =
      sum-merged blocks M.transitions g
      (each_map _ _ (λ t rules. merged-below t.source rules.source) M.transitions ok.transitions)
      (each_map _ _ most M.transitions ok.transitions)

  -- the merged model is in lowest terms, so in any terms that are asked for
  pub quotient-lowest : Each LowestTerms (quotient M blocks).transitions
  unfolding quotient
  quotient-lowest =
      each-by-block blocks M.transitions LowestTerms
      (each_map _ _ (λ t rules. merged-lowest blocks (length M.labels) M.actions t rules merged-below) M.transitions ok.transitions)
      (block_count blocks) 0

  -- the merged model is sound
  pub quotient-sound : SoundModel L (quotient M blocks)
  unfolding quotient
  quotient-sound =
      let Q = quotient M blocks in
      record {
        some_state = omega (arith, merged-states, count-some blocks among some);
        states = omega (arith, merged-states, count_most blocks among some, named.whole, ok.states);
        some_action = ok.some_action;
        actions = ok.actions;
        count = omega (arith, merged-sum (λ t. 1) (λ t rules. omega arith), sum_over-length Q.transitions, sum_over-length M.transitions, ok.count);
        labels = labels-of-blocks L.label blocks M.labels ok.labels (block_count blocks) 0;
        transitions =
            subst (λ (n : ℕ). Each (TransitionRules n M.actions) Q.transitions) (sym merged-states)
            (each-by-block blocks M.transitions (TransitionRules (block_count blocks) M.actions)
            (each_map _ _ (λ t rules. merged-rules blocks (length M.labels) M.actions t rules merged-below) M.transitions ok.transitions)
            (block_count blocks) 0);
        sources = along-from _ _ Q.transitions 0 (sources-by-block blocks M.transitions (block_count blocks) 0);
        entries =
            omega (arith, merged-sum (λ (t : Transition). length t.entries) (λ t rules. merged-few blocks (length M.labels) M.actions t rules merged-below), ok.entries);
        terms = each_map _ _ (lowest-has L.terms) Q.transitions quotient-lowest;
      }

  -- so its file is read as it
  pub merged-reads : FitsWidths L → read_whole L (merged_file M blocks) ≡ model (quotient M blocks) (length (merged_file M blocks))
  unfolding merged_file
  merged-reads fits = read-back-whole L (quotient M blocks) fits quotient-sound

  -- and is no longer than the model's
  pub merged-length : length (merged_file M blocks) ≤ length (model_bytes M)
  unfolding merged_file
  merged-length =
      omega (
        arith,
        model-length M,
        model-length (quotient M blocks),
        merged-states,
        count_most blocks among some,
        named.whole,
        merged-sum (λ (t : Transition). length (transition_bytes t))
            (λ t rules. omega (arith, transition_bytes-length t, transition_bytes-length (merged_transition blocks t), merged-few blocks (length M.labels) M.actions t rules merged-below)),
      )
