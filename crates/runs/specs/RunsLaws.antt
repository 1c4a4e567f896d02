-- Laws of the runs: the questions of a state against t are those of its run.
use Prim.Native.Nat.{ℕ, zero, suc, ◌+◌, ◌-◌, ◌≤◌, ◌<◌}
use Rattle.std.specs.Prelude.{◌≡◌, ◌⊎◌, Bool, true, false, length, get_or}
use Rattle.std.proofs.Math.Path.{refl, ap, ap₂}
use Rattle.std.proofs.Common.{sym, ◌∙◌, inl, inr}
use mathlib.Core.List.{List, [], ◌∷◌, ◌++◌, append-nil}
use native.Mathlib.Omega.{arith}
use Rattle.std.proofs.Math.Decide.{ℕ_discrete, dec_lt}
use Rattle.bisimulation.specs.definitions.Choice.{if_same, if_true}
use Rattle.bisimulation.proofs.argument.ChoiceLaws.{same, not_same, is_true, is_false, either_same, either_true}
use Rattle.bisimulation.specs.definitions.Automaton.{Automaton}
use Rattle.rules.specs.definitions.Certificate.{same_block}
use Rattle.rules.specs.definitions.Judging.{Question, questions_of_pair, questions_of_state, questions_from}
use Rattle.rules.specs.definitions.Model.{Transition, automaton_of, no_transition}
use Rattle.rules.specs.definitions.Reading.{model_at}
use Rattle.rules.specs.definitions.SoundModel.{Along}
use Rattle.pairs.specs.Rows.{row_bit, IsNext}
use Rattle.transition.specs.Known.{automaton_in, Known}
use Rattle.transition.specs.KnownLaws.{known-transitions}
use Rattle.runs.specs.Runs.{IsPast, run_end, IsDefender, run_questions, Splits}

-- 'Sources never descend along the file', for any two transitions
along-from : (t : Transition) (ts : List Transition) (j : ℕ) → Along (λ (t u : Transition). t.source ≤ u.source) (t ∷ ts) → j < suc (length ts) → t.source ≤ (get_or (t ∷ ts) j no_transition).source
unfolding Along
along-from t ts zero h less = omega arith
along-from t [] (suc j) h less = absurd (omega arith)
along-from t (u ∷ ts) (suc j) h less = let later = along-from u ts j h.1 (omega arith) in omega (arith, h.0, later)

along-at : (ts : List Transition) (i j : ℕ) → Along (λ (t u : Transition). t.source ≤ u.source) ts → i ≤ j → j < length ts → (get_or ts i no_transition).source ≤ (get_or ts j no_transition).source
unfolding Along
along-at [] i j h le less = absurd (omega arith)
along-at (t ∷ ts) zero j h le less = along-from t ts j h less
along-at (t ∷ ts) (suc i) zero h le less = absurd (omega arith)
along-at (t ∷ []) (suc i) (suc j) h le less = absurd (omega arith)
along-at (t ∷ u ∷ ts) (suc i) (suc j) h le less = along-at (u ∷ ts) i j h.1 (omega arith) (omega arith)

module _ {s table : List ℕ} {n count : ℕ} (k : Known s n count table) where
  sources-ascend : (i j : ℕ) → i ≤ j → j < count → (automaton_in s).source i ≤ (automaton_in s).source j
  unfolding automaton_of
  sources-ascend i j le less = along-at (model_at s).transitions i j k.sound.sources le (omega (arith, less, known-transitions k))

  -- no transition leaves a state below 0
  pub splits-start : Splits (automaton_in s) count 0 0
  splits-start = record { most = omega arith; below = λ i h. absurd (omega arith); above = λ i h l. omega arith }

  -- past the run of a state begins that of the next
  pub splits-next : {state first past : ℕ} → Splits (automaton_in s) count state first → IsPast (automaton_in s) count state first past → Splits (automaton_in s) count (state + 1) past
  splits-next {state} {first} {past} h p =
      record { most = p.most; below = λ i l. earlier i l (first-or i); above = λ i l m. later i l m }
    where
      first-or : (i : ℕ) → (i < first) ⊎ (first ≤ i)
      first-or i = go (dec_lt i first)
        where
          go : Dec (i < first) → (i < first) ⊎ (first ≤ i)
          go (yes l) = inl l
          go (no l) = inr (omega arith)

      earlier : (i : ℕ) → i < past → (i < first) ⊎ (first ≤ i) → (automaton_in s).source i < state + 1
      earlier i l (inl a) = omega (arith, h.below i a)
      earlier i l (inr b) = omega (arith, p.leave i b l)

      later : (i : ℕ) → past ≤ i → i < count → state + 1 ≤ (automaton_in s).source i
      later i l m =
          let here = h.above past p.from (omega arith) in
          let up = sources-ascend past i l m in
          let other : (automaton_in s).source past ≡ state → ⊥ = p.stops (omega arith) in
          omega (arith, here, up, other)

module _ (A : Automaton) (state t : ℕ) where
  -- transitions that do not leave the state ask nothing
  pair-none : (left r : ℕ) → ((i : ℕ) → r ≤ i → i < r + left → A.source i ≡ state → ⊥) → questions_of_pair A state t left r ≡ []
  unfolding questions_of_pair
  pair-none zero r h = refl
  pair-none (suc left) r h =
      ap (λ (xs : List Question). xs ++ questions_of_pair A state t left (r + 1)) (sym (not_same _ (h r (omega arith) (omega arith)) refl))
      ∙ pair-none left (r + 1) (λ i l m. h i (omega arith) (omega arith))

  pair-skip : (first left r : ℕ) → ((i : ℕ) → r ≤ i → i < r + first → A.source i ≡ state → ⊥) → questions_of_pair A state t (first + left) r ≡ questions_of_pair A state t left (r + first)
  unfolding questions_of_pair
  pair-skip zero left r h = let e : r ≡ r + 0 = omega arith in let f : 0 + left ≡ left = omega arith in ap (λ (k : ℕ). questions_of_pair A state t k r) f ∙ ap (questions_of_pair A state t left) e
  pair-skip (suc first) left r h =
      let e : r + 1 + first ≡ r + suc first = omega arith in
      let f : suc first + left ≡ suc (first + left) = omega arith in
      ap (λ (k : ℕ). questions_of_pair A state t k r) f
      ∙ ap (λ (xs : List Question). xs ++ questions_of_pair A state t (first + left) (r + 1)) (sym (not_same _ (h r (omega arith) (omega arith)) refl))
      ∙ pair-skip first left (r + 1) (λ i l m. h i (omega arith) (omega arith))
      ∙ ap (questions_of_pair A state t left) e

  -- those that leave it ask, one by one
  pair-run : (run left r : ℕ) → ((i : ℕ) → r ≤ i → i < r + run → A.source i ≡ state) → questions_of_pair A state t (run + left) r ≡ run_questions t run r ++ questions_of_pair A state t left (r + run)
  unfolding questions_of_pair run_questions
  pair-run zero left r h = let e : r ≡ r + 0 = omega arith in let f : 0 + left ≡ left = omega arith in ap (λ (k : ℕ). questions_of_pair A state t k r) f ∙ ap (questions_of_pair A state t left) e
  pair-run (suc run) left r h =
      let e : r + 1 + run ≡ r + suc run = omega arith in
      let f : suc run + left ≡ suc (run + left) = omega arith in
      ap (λ (k : ℕ). questions_of_pair A state t k r) f
      ∙ ap (λ (xs : List Question). xs ++ questions_of_pair A state t (run + left) (r + 1)) (sym (same [] (h r (omega arith) (omega arith)) refl))
      ∙ ap (λ (xs : List Question). record { challenger = r; defender = t } ∷ xs) (pair-run run left (r + 1) (λ i l m. h i (omega arith) (omega arith)) ∙ ap (λ (k : ℕ). run_questions t run (r + 1) ++ questions_of_pair A state t left k) e)

-- the questions of a state against t are those of its run
module _ {A : Automaton} {count state first past : ℕ} (all : A.transitions ≡ count) (h : Splits A count state first) (p : IsPast A count state first past) (next : Splits A count (state + 1) past) where
  pair-asks : (t : ℕ) → questions_of_pair A state t A.transitions 0 ≡ run_questions t (past - first) first
  pair-asks t =
      let e : A.transitions ≡ first + (past - first + (count - past)) = omega (arith, all, p.from, p.most) in
      let f : 0 + first ≡ first = omega arith in
      let g : first + (past - first) ≡ past = omega (arith, p.from) in
      ap (λ (k : ℕ). questions_of_pair A state t k 0) e
      ∙ pair-skip A state t first (past - first + (count - past)) 0 (λ i l m q. omega (arith, h.below i (omega arith), q))
      ∙ ap (questions_of_pair A state t (past - first + (count - past))) f
      ∙ pair-run A state t (past - first) (count - past) first (λ i l m. p.leave i l (omega (arith, p.from)))
      ∙ ap (λ (k : ℕ). run_questions t (past - first) first ++ questions_of_pair A state t (count - past) k) g
      ∙ ap (λ (xs : List Question). run_questions t (past - first) first ++ xs) (pair-none A state t (count - past) past later)
      ∙ append-nil (run_questions t (past - first) first)
    where
      later : (i : ℕ) → past ≤ i → i < past + (count - past) → A.source i ≡ state → ⊥
      later i l m q = omega (arith, next.above i l (omega (arith, p.most)), q)

  -- where it ends depends on the blocks
  pub state-turn : (blocks : List ℕ) (left t : ℕ) → 0 < left → questions_of_state A blocks state left t ≡ run_questions t (run_end blocks state t first past - first) first ++ questions_of_state A blocks state (left - 1) (t + 1)
  unfolding questions_of_state run_end
  state-turn blocks zero t some = absurd (omega arith)
  state-turn blocks (suc left) t some =
      let one : left ≡ suc left - 1 = omega arith in
      ap₂ (λ (xs : List Question) (k : ℕ). xs ++ questions_of_state A blocks state k (t + 1)) (asks (ℕ_discrete state t) (same_block blocks state t) refl) one
    where
      none : run_questions t (first - first) first ≡ []
      none = unfold run_questions in let z : first - first ≡ 0 = omega arith in ap (λ (k : ℕ). run_questions t k first) z

      run : ℕ → List Question
      run k = run_questions t (k - first) first

      asks : Dec (state ≡ t) → (b : Bool) → same_block blocks state t ≡ b → if_same state t [] (if_true (same_block blocks state t) (questions_of_pair A state t A.transitions 0) []) ≡ run_questions t (if_same state t first (if_true (same_block blocks state t) past first) - first) first
      asks (yes q) b e = sym (same _ q refl) ∙ sym none ∙ ap run (same _ q refl)
      asks (no q) true e = sym (not_same [] q (is_true [] e refl)) ∙ pair-asks t ∙ ap run (not_same first q (is_true first e refl))
      asks (no q) false e = sym (not_same [] q (is_false _ e refl)) ∙ sym none ∙ ap run (not_same first q (is_false past e refl))

pub from-turn : (A : Automaton) (blocks : List ℕ) (left state : ℕ) → 0 < left → questions_from A blocks left state ≡ questions_of_state A blocks state A.states 0 ++ questions_from A blocks (left - 1) (state + 1)
unfolding questions_from
from-turn A blocks zero state some = absurd (omega arith)
from-turn A blocks (suc left) state some =
    let one : left ≡ suc left - 1 = omega arith in
    ap (λ (k : ℕ). questions_of_state A blocks state A.states 0 ++ questions_from A blocks k (state + 1)) one

-- one more transition that leaves the state
pub leave-more : (A : Automaton) {state r x : ℕ} → ((i : ℕ) → r ≤ i → i < x → A.source i ≡ state) → A.source x ≡ state → (i : ℕ) → r ≤ i → i < x + 1 → A.source i ≡ state
leave-more A {state} {r} {x} h e i l m = go (ℕ_discrete i x)
  where
    go : Dec (i ≡ x) → A.source i ≡ state
    go (yes q) = ap A.source q ∙ e
    go (no q) = h i l (omega arith)

-- the next related state is another one, or the state itself and then the next behind it
module _ (rows : List ℕ) (state t next : ℕ) (n : IsNext (row_bit rows state) t next) where
  pub defender-next : (next ≡ state → ⊥) → IsDefender rows state t next
  defender-next o = record { from = n.from; none = λ u above less other. n.none u above less; other = λ less e. o (sym e); some = n.some }

  pub defender-behind : next ≡ state → {from x : ℕ} → from ≡ next + 1 → IsNext (row_bit rows state) from x → IsDefender rows state t x
  defender-behind own {from} {x} e m =
      record {
        from = omega (arith, n.from, m.from);
        none = λ u above less other. go u above less other (dec_lt u next);
        other = λ less q. omega (arith, m.from);
        some = m.some;
      }
    where
      go : (u : ℕ) → t ≤ u → u < x → (state ≡ u → ⊥) → Dec (u < next) → row_bit rows state u ≡ false
      go u above less other (yes l) = n.none u above l
      go u above less other (no l) = m.none u (omega (arith, other)) less

-- an empty run, or one that does not ask t, ends where it begins
pub end_empty : (blocks : List ℕ) (state t : ℕ) {first past : ℕ} → first ≡ past → run_end blocks state t first past ≡ first
unfolding run_end
end_empty blocks state t {first} {past} e =
    sym (either_same (λ (k : ℕ). first ≡ k) state t refl (either_true (λ (k : ℕ). first ≡ k) (same_block blocks state t) e refl))

pub end-own : (blocks : List ℕ) (state t first past : ℕ) → state ≡ t → run_end blocks state t first past ≡ first
unfolding run_end
end-own blocks state t first past e = sym (same _ e refl)

pub end-unrelated : (blocks : List ℕ) (state t first past : ℕ) → (state ≡ t → ⊥) → same_block blocks state t ≡ false → run_end blocks state t first past ≡ first
unfolding run_end
end-unrelated blocks state t first past o e = sym (not_same first o (is_false past e refl))

-- one that asks t goes to its end
pub end-asked : (blocks : List ℕ) (state t first past : ℕ) → (state ≡ t → ⊥) → same_block blocks state t ≡ true → run_end blocks state t first past ≡ past
unfolding run_end
end-asked blocks state t first past o e = sym (not_same first o (is_true first e refl))
