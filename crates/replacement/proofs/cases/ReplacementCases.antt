-- Six wrong merged models of the small pair S with label 1 for state 2, blocks 0 0 1: none may be used for it.
use Rattle.std.specs.Prelude.{ℕ, zero, suc, ◌+◌, ◌-◌, ◌*◌, ◌<◌, ◌≡◌, refl, ◌⊎◌, List, [], ◌∷◌, ◌++◌, map, length, get_or}
use Rattle.std.proofs.Common.{inl, inr, eq-zero-or-pos, arith}
use Rattle.bisimulation.specs.definitions.Choice.{if_same, if_less, if_true, both, all_below}
use Rattle.bisimulation.specs.definitions.Sum.{sum}
use Rattle.bisimulation.specs.definitions.StepRule.{arriving, leaving, over_targets, over_sources, before_move, after_move, at_target, MetExternal}
use Rattle.bisimulation.specs.definitions.Beside.{block_of}
use Rattle.rules.specs.definitions.Model.{Entry, Transition, Model, weight_of, automaton_of}
use Rattle.numbers.specs.definitions.Divisor.{divisor_within, divisor, divisor_of}
use Rattle.rules.specs.definitions.LowestTerms.{divisor_in, divided_entry, in_lowest}
use Rattle.quotient.specs.definitions.Quotient.{quotient, label_of_block, block_labels, weight_to_block, block_entries, added_up, merged_transition, from_block, same_transition, is_among, distinct, by_block}
use Rattle.rules.specs.definitions.BlockCount.{block_count}
use Rattle.rules.specs.definitions.JudgedBy.{plain_pairs}
use Rattle.joined.specs.definitions.Joined.{raised_entry, raised_transition, joined}
use Rattle.replacement.specs.definitions.Replacement.{LinkedBy, Replaces}

-- a transition to one state, with the weight w of d
unfoldable pub step : (source action target w d : ℕ) → Transition
step source action target w d =
    record { source = source; action = action; denominator = d; entries = record { state = target; weight = w } ∷ [] }

unfoldable pub model : (labels : List ℕ) → (transitions : List Transition) → Model
model labels transitions = record { actions = 2; labels = labels; transitions = transitions }

abbrev small : Model
small = model (0 ∷ 0 ∷ 1 ∷ []) (step 0 1 2 1 1 ∷ step 1 0 0 1 1 ∷ [])

abbrev its_blocks : List ℕ
its_blocks = 0 ∷ 0 ∷ 1 ∷ []

abbrev Used : Model → Type 0
Used N = Replaces plain_pairs small N its_blocks

-- the transition q of the two side by side is met by t
abbrev Moves : Model → (q t : ℕ) → Type 0
Moves N q t = MetExternal (automaton_of (joined small N)) (LinkedBy small N its_blocks) q t

-- its merged model
pub merged : quotient small its_blocks ≡ model (0 ∷ 1 ∷ []) (step 0 1 1 1 1 ∷ step 0 0 0 1 1 ∷ [])
unfolding step model if_less if_same if_true both all_below weight_of quotient block_count label_of_block block_labels weight_to_block block_entries divisor_within divisor divisor_of divisor_in divided_entry in_lowest added_up merged_transition from_block same_transition is_among distinct by_block
merged = refl

unused : (x : ℕ) → (0 < x → ⊥) → x ≡ 0
unused x none = go (eq-zero-or-pos x)
  where
    go : (x ≡ 0) ⊎ (0 < x) → x ≡ 0
    go (inl e) = e
    go (inr p) = absurd (none p)

-- the label of another block
abbrev label_of_another : Model
label_of_another = model (0 ∷ 0 ∷ []) (step 0 1 1 1 1 ∷ step 0 0 0 1 1 ∷ [])

pub label-of-another : Used label_of_another → ⊥
unfolding model automaton_of joined block_of if_less
label-of-another r = differ (r.linked.keeps_labels 2 4 (record { first = omega arith; second = omega arith; same = refl }))
  where
    differ : ◌≡◌ {A = ℕ} 1 0 → ⊥
    differ e = omega arith

-- a merged transition to the wrong block
abbrev wrong_block : Model
wrong_block = model (0 ∷ 1 ∷ []) (step 0 1 0 1 1 ∷ step 0 0 0 1 1 ∷ [])

pub wrong-block : Used wrong_block → ⊥
unfolding model step automaton_of joined block_of if_less if_same raised_transition raised_entry weight_of sum arriving leaving over_targets over_sources before_move after_move at_target
wrong-block r = broken ((r.linked.meets.met _ 3 (record { first = omega arith; second = omega arith; same = refl }) 0 (omega arith) refl).external (λ e. omega arith))
  where
    broken : Moves wrong_block 0 3 → ⊥
    broken m =
        let apart0 = unused (m.flow.w 0 2) (λ z. omega (arith, (m.related 0 2 (omega arith) (omega arith) z).same)) in
        let apart1 = unused (m.flow.w 1 2) (λ z. omega (arith, (m.related 1 2 (omega arith) (omega arith) z).same)) in
        let apart3 = unused (m.flow.w 3 2) (λ z. omega (arith, (m.related 3 2 (omega arith) (omega arith) z).same)) in
        let move0 = unused (m.flow.k 2 0) (λ z. omega (arith, m.layer2 0 (omega arith) z)) in
        let move2 = unused (m.flow.k 2 2) (λ z. omega (arith, m.layer2 2 (omega arith) z)) in
        omega (arith, apart0, apart1, apart3, move0, move2, m.at_least_one, (m.before 0 (omega arith)).equal, (m.before 1 (omega arith)).equal, (m.after 2 (omega arith)).equal, (m.after 4 (omega arith)).equal, (m.target 2 (omega arith)).equal)

-- a weight lost
abbrev weight_lost : Model
weight_lost = model (0 ∷ 1 ∷ []) (step 0 1 1 1 2 ∷ step 0 0 0 1 1 ∷ [])

pub weight-lost : Used weight_lost → ⊥
unfolding model step automaton_of joined block_of if_less if_same raised_transition raised_entry weight_of sum arriving leaving over_targets over_sources before_move after_move at_target
weight-lost r = broken ((r.linked.meets.met _ 0 (record { first = omega arith; second = omega arith; same = refl }) 2 (omega arith) refl).external (λ e. omega arith))
  where
    broken : Moves weight_lost 2 0 → ⊥
    broken m =
        let before0 = unused (m.flow.k 0 0) (λ z. omega (arith, m.layer0 0 (omega arith) z)) in
        let after0 = unused (m.flow.k 2 0) (λ z. omega (arith, m.layer2 0 (omega arith) z)) in
        omega (arith, before0, after0, m.at_least_one, (m.before 0 (omega arith)).equal, (m.before 1 (omega arith)).equal, (m.before 3 (omega arith)).equal, (m.after 2 (omega arith)).equal, (m.target 0 (omega arith)).equal, (m.target 1 (omega arith)).equal, (m.target 2 (omega arith)).equal, (m.target 3 (omega arith)).equal, (m.target 4 (omega arith)).equal)

-- a transition of one member left out though none is the same
abbrev left_out : Model
left_out = model (0 ∷ 1 ∷ []) (step 0 0 0 1 1 ∷ [])

pub left_out_lem : Used left_out → ⊥
unfolding model step automaton_of joined block_of if_less if_same raised_transition raised_entry weight_of sum arriving leaving over_targets over_sources before_move after_move at_target
left_out_lem r = broken ((r.linked.meets.met _ 3 (record { first = omega arith; second = omega arith; same = refl }) 0 (omega arith) refl).external (λ e. omega arith))
  where
    broken : Moves left_out 0 3 → ⊥
    broken m =
        let loop = unused (m.flow.k 1 2) (λ z. omega (arith, m.layer1 2 (omega arith) z)) in
        omega (arith, loop, m.at_least_one, (m.before 3 (omega arith)).equal)

-- a transition that no member has
abbrev of_no_member : Model
of_no_member = model (0 ∷ 1 ∷ []) (step 0 1 1 1 1 ∷ step 0 0 0 1 1 ∷ step 1 1 1 1 1 ∷ [])

pub of-no-member : Used of_no_member → ⊥
unfolding model step automaton_of joined block_of if_less if_same raised_transition raised_entry weight_of sum arriving leaving over_targets over_sources before_move after_move at_target
of-no-member r = broken ((r.linked.meets.met _ 2 (record { first = omega arith; second = omega arith; same = refl }) 4 (omega arith) refl).external (λ e. omega arith))
  where
    broken : Moves of_no_member 4 2 → ⊥
    broken m = omega (arith, m.at_least_one, (m.before 2 (omega arith)).equal)

-- a state that stands for no block
abbrev spare_state : Model
spare_state = model (0 ∷ 1 ∷ 1 ∷ []) (step 0 1 1 1 1 ∷ step 0 0 0 1 1 ∷ [])

pub spare-state : Used spare_state → ⊥
unfolding model
spare-state r = apart (r.stands 2 (omega arith))
  where
    apart : (s : ℕ) × (s < 3) × (get_or its_blocks s 0 ≡ 2) → ⊥
    apart (zero, l, e) = omega (arith, e)
    apart (suc zero, l, e) = omega (arith, e)
    apart (suc (suc zero), l, e) = omega (arith, e)
    apart (suc (suc (suc s)), l, e) = omega (arith, l)
