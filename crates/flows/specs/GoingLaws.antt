-- Laws of the questions left: a turn and the end of each loop over them.
use Rattle.std.specs.Prelude.{ℕ, zero, suc, ◌+◌, ◌-◌, ◌≤◌, ◌<◌, ◌≡◌, refl, true, List, [], ◌∷◌, ◌++◌, length, ℤ}
use Rattle.std.proofs.Common.{sym, ◌∙◌, ap₂, append_assoc}
use Rattle.std.proofs.Math.Path.{ap}
use native.Mathlib.Omega.{arith}
use Rattle.std.proofs.Math.Decide.{ℕ_discrete, dec_lt}
use Rattle.bisimulation.specs.definitions.Pairs.{Pairs}
use Rattle.rules.specs.definitions.Limits.{limits}
use Rattle.rules.specs.definitions.Certificate.{FileRule, same_block}
use Rattle.rules.specs.definitions.Judging.{Question, questions, questions_of_state, questions_from}
use Rattle.remainders.specs.Remainders.{AllZero}
use Rattle.transition.specs.Known.{automaton_in, Known}
use Rattle.transition.specs.KnownLaws.{known-states, known-transitions}
use Rattle.pairs.specs.Rows.{row_bit, HoldsPairs}
use Rattle.runs.specs.Runs.{IsPast, run_end, IsDefender, IsFirstDefender, no_run, asked, run_questions, Splits}
use Rattle.runs.specs.RunsLaws.{state-turn, from-turn, splits-next, end_empty, end-own, end-unrelated, end-asked}
use Rattle.flows.specs.FlowsJudged.{BlocksAgree}
use Rattle.flows.specs.Going.{blocks_in, left_states, left_defenders, left_run, Going, going-held, going-list, going_start}

from-none : (s blocks : List ℕ) (left state : ℕ) → left ≤ 0 → questions_from (automaton_in s) blocks left state ≡ []
unfolding questions_from
from-none s blocks zero state h = refl
from-none s blocks (suc left) state h = absurd (omega arith)

state-none : (s blocks : List ℕ) (state left t : ℕ) → left ≤ 0 → questions_of_state (automaton_in s) blocks state left t ≡ []
unfolding questions_of_state
state-none s blocks state zero t h = refl
state-none s blocks state (suc left) t h = absurd (omega arith)

run-some : (t left r : ℕ) → 0 < left → run_questions t left r ≡ record { challenger = r; defender = t } ∷ run_questions t (left - 1) (r + 1)
unfolding run_questions
run-some t zero r h = absurd (omega arith)
run-some t (suc left) r h =
    let one : left ≡ suc left - 1 = omega arith in
    ap (λ (k : ℕ). record { challenger = r; defender = t } ∷ run_questions t k (r + 1)) one

run_none : (t left r : ℕ) → left ≤ 0 → run_questions t left r ≡ []
unfolding run_questions
run_none t zero r h = refl
run_none t (suc left) r h = absurd (omega arith)

-- t, where it is one of n states, is another than a state and related to it
pub record Asked (rows : List ℕ) (n state t : ℕ) : Type 0 where
  pub other : t < n → state ≡ t → ⊥
  pub some : t < n → row_bit rows state t ≡ true

pub next-asked : {rows : List ℕ} {n state t x : ℕ} → n ≤ limits.states → IsDefender rows state t x → Asked rows n state x
next-asked few d = record { other = λ less. d.other (omega arith); some = λ less. d.some (omega arith) }

pub first-asked : {rows : List ℕ} {n state first past x : ℕ} → n ≤ limits.states → IsFirstDefender rows n state first past x → Asked rows n state x
first-asked few (no_run e q) = record { other = λ less. absurd (omega arith); some = λ less. absurd (omega arith) }
first-asked few (asked o d) = next-asked few d

module _ (rule : FileRule) (s C : List ℕ) (n : ℕ) (rows : List ℕ) (blocks : ℕ) where
  all_left : (automaton_in s).states ≡ n → questions (automaton_in s) (blocks_in rule s C n rows blocks) ≡ left_states rule s C n rows blocks 0
  unfolding questions
  all_left e =
      let z : (automaton_in s).states ≡ n - 0 = omega arith in
      ap (λ (k : ℕ). questions_from (automaton_in s) (blocks_in rule s C n rows blocks) k 0) z

  states-turn : (state : ℕ) → (automaton_in s).states ≡ n → state < n → left_states rule s C n rows blocks state ≡ left_defenders rule s C n rows blocks state 0
  states-turn state e less =
      let z : (automaton_in s).states ≡ n - 0 = omega arith in
      let l : n - state - 1 ≡ n - (state + 1) = omega arith in
      from-turn (automaton_in s) (blocks_in rule s C n rows blocks) (n - state) state (omega arith)
      ∙ ap₂ (λ (j k : ℕ). questions_of_state (automaton_in s) (blocks_in rule s C n rows blocks) state j 0 ++ questions_from (automaton_in s) (blocks_in rule s C n rows blocks) k (state + 1)) z l

  states-done : (state : ℕ) → n ≤ state → left_states rule s C n rows blocks state ≡ []
  states-done state h = from-none s _ (n - state) state (omega arith)

  defenders-turn : (count state first past t : ℕ) → (automaton_in s).transitions ≡ count → Splits (automaton_in s) count state first → IsPast (automaton_in s) count state first past → Splits (automaton_in s) count (state + 1) past → t < n → left_defenders rule s C n rows blocks state t ≡ left_run rule s C n rows blocks state t first (run_end (blocks_in rule s C n rows blocks) state t first past)
  defenders-turn count state first past t all h p next less =
      let l : n - t - 1 ≡ n - (t + 1) = omega arith in
      ap (λ (xs : List Question). xs ++ left_states rule s C n rows blocks (state + 1)) (state-turn all h p next (blocks_in rule s C n rows blocks) (n - t) t (omega arith))
      ∙ append_assoc (run_questions t (run_end (blocks_in rule s C n rows blocks) state t first past - first) first) _ _
      ∙ ap (λ (k : ℕ). run_questions t (run_end (blocks_in rule s C n rows blocks) state t first past - first) first ++ (questions_of_state (automaton_in s) (blocks_in rule s C n rows blocks) state k (t + 1) ++ left_states rule s C n rows blocks (state + 1))) l

  defenders-done : (state t : ℕ) → n ≤ t → left_defenders rule s C n rows blocks state t ≡ left_states rule s C n rows blocks (state + 1)
  defenders-done state t h = ap (λ (xs : List Question). xs ++ left_states rule s C n rows blocks (state + 1)) (state-none s _ state (n - t) t (omega arith))

  run-done : (state t r end : ℕ) → end ≤ r → left_run rule s C n rows blocks state t r end ≡ left_defenders rule s C n rows blocks state (t + 1)
  run-done state t r end h = ap (λ (xs : List Question). xs ++ left_defenders rule s C n rows blocks state (t + 1)) (run_none t (end - r) r (omega arith))

  -- defenders that the run does not ask are passed over
  defenders-skip : (count state first past : ℕ) → (automaton_in s).transitions ≡ count → Splits (automaton_in s) count state first → IsPast (automaton_in s) count state first past → Splits (automaton_in s) count (state + 1) past → (left t : ℕ) → ((u : ℕ) → t ≤ u → u < t + left → u < n → run_end (blocks_in rule s C n rows blocks) state u first past ≡ first) → left_defenders rule s C n rows blocks state t ≡ left_defenders rule s C n rows blocks state (t + left)
  defenders-skip count state first past all h p next zero t none = let e : t ≡ t + 0 = omega arith in ap (left_defenders rule s C n rows blocks state) e
  defenders-skip count state first past all h p next (suc left) t none =
      go (dec_lt t n) (defenders-skip count state first past all h p next left (t + 1) (λ u above below few. none u (omega arith) (omega arith) few))
    where
      go : Dec (t < n) → left_defenders rule s C n rows blocks state (t + 1) ≡ left_defenders rule s C n rows blocks state (t + 1 + left) → left_defenders rule s C n rows blocks state t ≡ left_defenders rule s C n rows blocks state (t + suc left)
      go (yes less) later =
          let one : t + 1 + left ≡ t + suc left = omega arith in
          defenders-turn count state first past t all h p next less
          ∙ ap (left_run rule s C n rows blocks state t first) (none t (omega arith) (omega arith) less)
          ∙ run-done state t first first (omega arith)
          ∙ later
          ∙ ap (left_defenders rule s C n rows blocks state) one
      go (no more) later = defenders-done state t (omega arith) ∙ sym (defenders-done state (t + suc left) (omega arith))

  run-turn : (state t r end : ℕ) → r < end → left_run rule s C n rows blocks state t r end ≡ record { challenger = r; defender = t } ∷ left_run rule s C n rows blocks state t (r + 1) end
  run-turn state t r end less =
      let l : end - r - 1 ≡ end - (r + 1) = omega arith in
      ap (λ (xs : List Question). xs ++ left_defenders rule s C n rows blocks state (t + 1)) (run-some t (end - r) r (omega arith) ∙ ap (λ (k : ℕ). record { challenger = r; defender = t } ∷ run_questions t k (r + 1)) l)

  -- the questions left of a state, where the blocks are those of the related pairs
  module _ {count : ℕ} {table : List ℕ} (k : Known s n count table) (agree : BlocksAgree C n rows blocks) (state first past : ℕ) (h : Splits (automaton_in s) count state first) (p : IsPast (automaton_in s) count state first past) (here : state < n) where
    skip : (left t : ℕ) → ((u : ℕ) → t ≤ u → u < t + left → u < n → run_end (blocks_in rule s C n rows blocks) state u first past ≡ first) → left_defenders rule s C n rows blocks state t ≡ left_defenders rule s C n rows blocks state (t + left)
    skip = defenders-skip count state first past (known-transitions k) h p (splits-next k h p)

    none_left : (x : ℕ) → first ≡ past → left_defenders rule s C n rows blocks state 0 ≡ left_defenders rule s C n rows blocks state x
    none_left x e =
        let z : 0 + x ≡ x = omega arith in
        skip x 0 (λ u above below few. end_empty _ state u e) ∙ ap (left_defenders rule s C n rows blocks state) z

    module _ (R : Pairs) (held : HoldsPairs n R rows) where
      block-bit : (u : ℕ) → u < n → same_block (blocks_in rule s C n rows blocks) state u ≡ row_bit rows state u
      block-bit u few = agree.shared R held state u here few ∙ sym (held.bits state u here few)

      next-left : (t x : ℕ) → IsDefender rows state t x → left_defenders rule s C n rows blocks state t ≡ left_defenders rule s C n rows blocks state x
      next-left t x d =
          let e : t + (x - t) ≡ x = omega (arith, d.from) in
          skip (x - t) t (λ u above below few. unasked u above (omega (arith, d.from)) few (ℕ_discrete state u)) ∙ ap (left_defenders rule s C n rows blocks state) e
        where
          unasked : (u : ℕ) → t ≤ u → u < x → u < n → Dec (state ≡ u) → run_end (blocks_in rule s C n rows blocks) state u first past ≡ first
          unasked u above below few (yes q) = end-own _ state u first past q
          unasked u above below few (no q) = end-unrelated _ state u first past q (block-bit u few ∙ d.none u above below q)

      run-left : (t : ℕ) → Asked rows n state t → t < n → left_defenders rule s C n rows blocks state t ≡ left_run rule s C n rows blocks state t first past
      run-left t a less =
          defenders-turn count state first past t (known-transitions k) h p (splits-next k h p) less
          ∙ ap (left_run rule s C n rows blocks state t first) (end-asked _ state t first past (a.other less) (block-bit t less ∙ a.some less))

-- judging goes through the questions in these turns
module _ {rule : FileRule} {s C : List ℕ} {n : ℕ} {rows : List ℕ} {blocks : ℕ} {remainders target : List ℤ} where
  pub going-all : {count at : ℕ} {table : List ℕ} → Known s n count table → at ≡ blocks + n → blocks + n ≤ length C → AllZero remainders → AllZero target → Going rule s C n rows blocks (left_states rule s C n rows blocks 0) remainders target at
  going-all k place whole a b = going_start rule s C n rows blocks (all_left rule s C n rows blocks (known-states k)) place whole a b

  module _ {at : ℕ} where
    pub going-state : {count : ℕ} {table : List ℕ} (state : ℕ) → Known s n count table → state < n → Going rule s C n rows blocks (left_states rule s C n rows blocks state) remainders target at → Going rule s C n rows blocks (left_defenders rule s C n rows blocks state 0) remainders target at
    going-state state k less g = going-list rule s C n rows blocks (states-turn rule s C n rows blocks state (known-states k) less) g

    pub states-end : (state : ℕ) → n ≤ state → Going rule s C n rows blocks (left_states rule s C n rows blocks state) remainders target at → Going rule s C n rows blocks [] remainders target at
    states-end state h g = going-list rule s C n rows blocks (states-done rule s C n rows blocks state h) g

    -- the run of a state goes on to the next state that it asks, and asks it
    module _ {count : ℕ} {table : List ℕ} (k : Known s n count table) (agree : BlocksAgree C n rows blocks) (state first past : ℕ) (h : Splits (automaton_in s) count state first) (p : IsPast (automaton_in s) count state first past) (here : state < n) where
      pub going_next : (t x : ℕ) → IsDefender rows state t x → Going rule s C n rows blocks (left_defenders rule s C n rows blocks state t) remainders target at → Going rule s C n rows blocks (left_defenders rule s C n rows blocks state x) remainders target at
      going_next t x d g = going-held rule s C n rows blocks (λ R held. next-left rule s C n rows blocks k agree state first past h p here R held t x d) g

      pub going-first : (x : ℕ) → IsFirstDefender rows n state first past x → Going rule s C n rows blocks (left_defenders rule s C n rows blocks state 0) remainders target at → Going rule s C n rows blocks (left_defenders rule s C n rows blocks state x) remainders target at
      going-first x (no_run e q) g = going-list rule s C n rows blocks (none_left rule s C n rows blocks k agree state first past h p here x e) g
      going-first x (asked o d) g = going_next 0 x d g

      pub going-defender : (t : ℕ) → Asked rows n state t → t < n → Going rule s C n rows blocks (left_defenders rule s C n rows blocks state t) remainders target at → Going rule s C n rows blocks (left_run rule s C n rows blocks state t first past) remainders target at
      going-defender t a less g = going-held rule s C n rows blocks (λ R held. run-left rule s C n rows blocks k agree state first past h p here R held t a less) g

    pub defenders-end : (state t : ℕ) → n ≤ t → Going rule s C n rows blocks (left_defenders rule s C n rows blocks state t) remainders target at → Going rule s C n rows blocks (left_states rule s C n rows blocks (state + 1)) remainders target at
    defenders-end state t h g = going-list rule s C n rows blocks (defenders-done rule s C n rows blocks state t h) g

    pub going-transition : (state t r end : ℕ) → r < end → Going rule s C n rows blocks (left_run rule s C n rows blocks state t r end) remainders target at → Going rule s C n rows blocks (record { challenger = r; defender = t } ∷ left_run rule s C n rows blocks state t (r + 1) end) remainders target at
    going-transition state t r end less g = going-list rule s C n rows blocks (run-turn rule s C n rows blocks state t r end less) g

    pub run_ends : (state t r end : ℕ) → end ≤ r → Going rule s C n rows blocks (left_run rule s C n rows blocks state t r end) remainders target at → Going rule s C n rows blocks (left_defenders rule s C n rows blocks state (t + 1)) remainders target at
    run_ends state t r end h g = going-list rule s C n rows blocks (run-done rule s C n rows blocks state t r end h) g
