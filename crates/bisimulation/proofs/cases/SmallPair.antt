-- Document 01, 'A small pair': model S as an automaton, with the refutations, pairs, blocks and flows of its certificate.
use Rattle.std.specs.Prelude.{ℕ, zero, suc, ◌<◌, ◌≡◌, refl, ◌≢◌, true, false, List, [], ◌∷◌, get_or, ℤ, pos, T, ◌≤ℤ◌, ◌<ℤ◌}
use Rattle.std.specs.Int.Signed.{le_z, le_z_yes, lt_z_yes}
use Rattle.std.proofs.Common.{arith}
use Rattle.bisimulation.specs.definitions.Choice.{if_same, both}
use Rattle.bisimulation.proofs.argument.ChoiceLaws.{false-not}
use Rattle.bisimulation.specs.definitions.Sum.{sum, sumℤ}
use Rattle.bisimulation.specs.definitions.Automaton.{Automaton, SoundAutomaton}
use Rattle.bisimulation.specs.definitions.StepRule.{Flow, arriving, leaving, over_targets, over_sources, before_move, after_move, internal_move, at_target, Met}
use Rattle.bisimulation.specs.definitions.Pairs.{Pairs, equal_labels, is_pair, removed}
use Rattle.bisimulation.specs.definitions.Prices.{price_at, price_of_targets}
use Rattle.bisimulation.specs.definitions.Refutation.{PlainRefutes}
use Rattle.bisimulation.specs.definitions.PairsLeft.{PairsLeft, start, refuted}
use Rattle.bisimulation.specs.definitions.Blocks.{SharedExactlyWhenLeft, QuestionsMet}
use Rattle.bisimulation.proofs.argument.BlocksLargest.{blocks_largest}
use Rattle.bisimulation.specs.definitions.Largest.{LargestBisimulation}
use Rattle.bisimulation.proofs.argument.Plain.{plain}

-- 'n 3, m 2 .. Transition 0: state 0, action 1, to 2 with 1/1. Transition 1: state 1, action 0, to 0 with 1/1', with any labels
unfoldable pub small_with : (ℕ → ℕ) → Automaton
small_with label =
    record {
      states = 3;
      actions = 2;
      transitions = 2;
      label = label;
      source = λ q. if_same q 0 0 1;
      action = λ q. if_same q 0 1 0;
      denominator = λ q. 1;
      weight = λ q v. if_same v (if_same q 0 2 0) 1 0;
    }

-- 'labels 0'
abbrev pub small : Automaton
small = small_with (λ v. 0)

-- what holds of 0 and 1, or of 0, 1 and 2, holds below 2 and below 3
pub below_two : (P : ℕ → Type 0) → P 0 → P 1 → (v : ℕ) → v < 2 → P v
below_two P a b zero l = a
below_two P a b (suc zero) l = b
below_two P a b (suc (suc v)) l = absurd (omega arith)

pub below_three : (P : ℕ → Type 0) → P 0 → P 1 → P 2 → (v : ℕ) → v < 3 → P v
below_three P a b c zero l = a
below_three P a b c (suc zero) l = b
below_three P a b c (suc (suc zero)) l = c
below_three P a b c (suc (suc (suc v))) l = absurd (omega arith)

pub both_below_three : (P : ℕ → ℕ → Type 0) → P 0 0 → P 0 1 → P 0 2 → P 1 0 → P 1 1 → P 1 2 → P 2 0 → P 2 1 → P 2 2 → (v u : ℕ) → v < 3 → u < 3 → P v u
both_below_three P a b c d e f g h i v u l k =
    below_three (λ x. P x u) (below_three (P 0) a b c u k) (below_three (P 1) d e f u k) (below_three (P 2) g h i u k) v l

-- two prices in order, whatever else is asked
pub passes : {P : Type 0} {x y : ℤ} → T (le_z x y) → P → x ≤ℤ y
passes t p = le_z_yes t

-- nothing is above itself
pub none : {P : Type 0} → 0 < 0 → P
none l = absurd (omega arith)

pub small_sound : SoundAutomaton small
unfolding SoundAutomaton small_with if_same sum
small_sound =
    below_two _
    (record { from = omega arith; known = omega arith; positive = omega arith; whole = refl })
    (record { from = omega arith; known = omega arith; positive = omega arith; whole = refl })

-- 'The related pairs start as all pairs with equal labels'
pub start_pairs : (equal_labels small 0 2 ≡ true) × (equal_labels (small_with (λ v. v)) 0 2 ≡ false)
unfolding equal_labels small_with
start_pairs = (refl, refl)

-- the pairs left after the first refutation, and after both
abbrev pub left_by_one : Pairs
left_by_one = removed 0 2 (equal_labels small)

abbrev pub left_by_both : Pairs
left_by_both = removed 1 2 left_by_one

-- 'Then (s,t) and (t,s) are removed', and no other pair
pub removed_pairs : (left_by_one 0 2 ≡ false) × (left_by_one 2 0 ≡ false) × (left_by_one 0 1 ≡ true) × (left_by_one 1 2 ≡ true)
unfolding equal_labels small_with removed is_pair both
removed_pairs = (refl, refl, refl, refl)

-- the prices A 1 1 a, B b 1 1, G 1 1 1
unfoldable pub external_prices : (a b : ℤ) → ℕ → ℤ
external_prices a b i = get_or (pos 1 ∷ pos 1 ∷ a ∷ b ∷ pos 1 ∷ pos 1 ∷ pos 1 ∷ pos 1 ∷ pos 1 ∷ []) i (pos 0)

-- 'transition 0 against 2 with A 1 1 0, B 1 1 1, G 1 1 1'
abbrev pub first_prices : ℕ → ℤ
first_prices = external_prices (pos 0) (pos 1)

pub first_refutation : PlainRefutes small (equal_labels small) 0 2 first_prices
unfolding small_with if_same sumℤ price_at price_of_targets external_prices
first_refutation =
    record {
      internal = λ e. absurd (omega arith);
      external = λ _. record {
        before = record { holds = below_two _ (λ e. absurd (omega arith)) (passes tt) };
        after = record { holds = below_two _ (λ e. absurd (omega arith)) (passes tt) };
        move = record { holds = below_two _ (passes tt) (λ e. absurd (omega arith)) };
        related = record { holds = both_below_three _ (passes tt) (passes tt) (passes tt) (passes tt) (passes tt) (passes tt) (passes tt) (passes tt) (passes tt) };
        last = record { holds = lt_z_yes tt };
      };
    }

-- 'transition 1 against 2 with A 1 1 0, G 1 0 0'
unfoldable pub second_prices : ℕ → ℤ
second_prices i = get_or (pos 1 ∷ pos 1 ∷ pos 0 ∷ pos 1 ∷ pos 0 ∷ pos 0 ∷ []) i (pos 0)

pub second_refutation : PlainRefutes small left_by_one 1 2 second_prices
unfolding small_with if_same both sumℤ price_at price_of_targets is_pair removed second_prices
second_refutation =
    record {
      internal = λ _. record {
        internal = record { holds = below_two _ (λ e. absurd (omega arith)) (passes tt) };
        related = record { holds = both_below_three _ (passes tt) (passes tt) (passes tt) (passes tt) (passes tt) (passes tt) (λ e. absurd (false-not e)) (passes tt) (passes tt) };
        last = record { holds = lt_z_yes tt };
      };
      external = λ n. absurd (n refl);
    }

-- C3, 'A(2) = 1 in the first': the last condition breaks, as 1 is not below 1
pub last_broken : PlainRefutes small (equal_labels small) 0 2 (external_prices (pos 1) (pos 1)) → ⊥
unfolding small_with if_same sumℤ price_at price_of_targets external_prices
last_broken r = one_below_one (r.external (λ e. omega arith)).last.holds
  where
    one_below_one : pos 1 <ℤ pos 1 → ⊥
    one_below_one h = h.lt

-- B(0) = 2 in the first: B's own condition breaks, as transition 1 leads from 1 to 2
pub after_broken : PlainRefutes small (equal_labels small) 0 2 (external_prices (pos 0) (pos 2)) → ⊥
unfolding small_with if_same sumℤ price_at price_of_targets external_prices
after_broken r = two_at_most_one ((r.external (λ e. omega arith)).after.holds 1 (omega arith) refl)
  where
    two_at_most_one : pos 2 ≤ℤ pos 1 → ⊥
    two_at_most_one h = h.le

-- C2, the second refutation first: 2 and 0 are still related, and A(2) is below G(0)
pub related_broken : PlainRefutes small (equal_labels small) 1 2 second_prices → ⊥
unfolding small_with if_same equal_labels second_prices
related_broken r = one_at_most_zero ((r.internal refl).related.holds 2 0 (omega arith) (omega arith) refl)
  where
    one_at_most_zero : pos 1 ≤ℤ pos 0 → ⊥
    one_at_most_zero h = h.le

-- the pairs that the certificate's refutations leave
pub small_left : PairsLeft plain small left_by_both
unfolding small_with if_same equal_labels removed is_pair both
small_left =
    refuted (refuted start 0 2 first_prices (omega arith) (omega arith) (λ e. omega arith) refl first_refutation)
    1 2 second_prices (omega arith) (omega arith) (λ e. omega arith) refl second_refutation

-- 'blocks 0 0 1'
abbrev pub small_blocks : List ℕ
small_blocks = 0 ∷ 0 ∷ 1 ∷ []

-- two states in one of them
pub record SmallBlock (s t : ℕ) : Type 0 where
  pub first : s < 3
  pub second : t < 3
  pub same : get_or small_blocks s 0 ≡ get_or small_blocks t 0

-- 'flow D 1, k (0,1) 1 and (1,0) 1, w(2,2) 1', for transition 0 against state 1
unfoldable pub first_flow : Flow
first_flow =
    record {
      D = 1;
      k = λ layer r. if_same layer 0 (if_same r 1 1 0) (if_same layer 1 (if_same r 0 1 0) 0);
      w = λ v u. if_same v 2 (if_same u 2 1 0) 0;
    }

pub first_met : Met small SmallBlock 0 1
unfolding small_with if_same sum arriving leaving over_targets over_sources before_move after_move at_target first_flow
first_met =
    record {
      internal = λ e. absurd (omega arith);
      external = λ _. record {
        flow = first_flow;
        at_least_one = omega arith;
        layer0 = below_two _ (λ e. absurd (omega arith)) (λ _. refl);
        layer1 = below_two _ (λ _. refl) (λ e. absurd (omega arith));
        layer2 = λ r l. none;
        related = both_below_three _ none none none none none none none none (λ _. record { first = omega arith; second = omega arith; same = refl });
        before = below_three _ (record { equal = refl }) (record { equal = refl }) (record { equal = refl });
        after = below_three _ (record { equal = refl }) (record { equal = refl }) (record { equal = refl });
        target = below_three _ (record { equal = refl }) (record { equal = refl }) (record { equal = refl });
      };
    }

-- 'flow D 1, no k, w(0,0) 1', for transition 1 against state 0
unfoldable pub second_flow : Flow
second_flow = record { D = 1; k = λ layer r. 0; w = λ v u. if_same v 0 (if_same u 0 1 0) 0 }

pub second_met : Met small SmallBlock 1 0
unfolding small_with if_same sum arriving leaving over_targets over_sources internal_move at_target second_flow
second_met =
    record {
      internal = λ _. record {
        flow = second_flow;
        at_least_one = omega arith;
        layer0 = λ r l. none;
        related = both_below_three _ (λ _. record { first = omega arith; second = omega arith; same = refl }) none none none none none none none none;
        move = below_three _ (record { equal = refl }) (record { equal = refl }) (record { equal = refl });
        target = below_three _ (record { equal = refl }) (record { equal = refl }) (record { equal = refl });
      };
      external = λ n. absurd (n refl);
    }

-- 'Two states share a block exactly when they are still related'
pub small_shared : SharedExactlyWhenLeft small left_by_both SmallBlock
unfolding small_with equal_labels removed is_pair both
small_shared =
    record {
      on_states = λ s t z. (z.first, z.second);
      related = λ s t z. related s t z.first z.second z.same;
      shared = λ s t l k e. record { first = l; second = k; same = shared s t l k e };
    }
  where
    related : (s t : ℕ) → s < 3 → t < 3 → get_or small_blocks s 0 ≡ get_or small_blocks t 0 → left_by_both s t ≡ true
    related =
        both_below_three _ (λ _. refl) (λ _. refl) (λ e. absurd (omega arith)) (λ _. refl) (λ _. refl) (λ e. absurd (omega arith))
        (λ e. absurd (omega arith)) (λ e. absurd (omega arith)) (λ _. refl)

    shared : (s t : ℕ) → s < 3 → t < 3 → left_by_both s t ≡ true → get_or small_blocks s 0 ≡ get_or small_blocks t 0
    shared =
        both_below_three _ (λ _. refl) (λ _. refl) (λ e. absurd (false-not e)) (λ _. refl) (λ _. refl) (λ e. absurd (false-not e))
        (λ e. absurd (false-not e)) (λ e. absurd (false-not e)) (λ _. refl)

-- the two questions between states 0 and 1 are all
pub small_questions : QuestionsMet Met small SmallBlock
unfolding small_with if_same
small_questions = record { met = λ s t z. asked s t z.first z.second z.same }
  where
    itself : {s b : ℕ} {P : Type 0} → b ≡ b → s ≢ s → P
    itself e n = absurd (n refl)

    asked : (s t : ℕ) → s < 3 → t < 3 → get_or small_blocks s 0 ≡ get_or small_blocks t 0 → s ≢ t → (q : ℕ) → q < 2 → small.source q ≡ s → Met small SmallBlock q t
    asked =
        both_below_three _ itself (λ _ _. below_two _ (λ _. first_met) (λ e. absurd (omega arith))) (λ e. absurd (omega arith))
        (λ _ _. below_two _ (λ e. absurd (omega arith)) (λ _. second_met)) itself (λ e. absurd (omega arith))
        (λ e. absurd (omega arith)) (λ e. absurd (omega arith)) itself

-- so lying in one of the blocks 0 0 1 is the largest relation of S
pub small_largest : LargestBisimulation Met small SmallBlock
small_largest = blocks_largest small_sound small_left small_shared small_questions
