-- 'That relation is symmetric, keeps labels and meets the step rule': by who asks whom.
use Rattle.std.specs.Prelude.{ℕ, ◌+◌, ◌*◌, ◌<◌, ◌≡◌, ◌↔◌, ◌⊎◌}
use Rattle.std.proofs.Math.Path.{refl, sym, ap}
use Rattle.std.proofs.Common.{◌∙◌, subst, inl, inr, eq-zero-or-pos, mul_comm, mul-pos, arith}
use Rattle.std.proofs.Math.Decide.{ℕ_discrete}
use Rattle.std.proofs.Math.Nat.{eq_of_mul-eq-mul_left}
use Rattle.bisimulation.specs.definitions.Choice.{if_same}
use Rattle.bisimulation.proofs.argument.ChoiceLaws.{same, not_same, turned, times_same, either_same, kept_same}
use Rattle.bisimulation.specs.definitions.Sum.{sum}
use Rattle.bisimulation.proofs.argument.SumLaws.{sum_cong, sum_zero, sum_times_right, sum_exchange, sum_same}
use Rattle.bisimulation.proofs.argument.Own.{plain_own}
use Rattle.bisimulation.specs.definitions.Automaton.{Automaton, SoundAutomaton}
use Rattle.bisimulation.specs.definitions.StepRule.{over_targets, Met, MeetsStepRule}
use Rattle.bisimulation.specs.definitions.StandsFor.{weight_into, StandsFor}
use Rattle.bisimulation.specs.definitions.Pairs.{Pairs}
use Rattle.bisimulation.specs.definitions.Largest.{Bisimulation, BisimilarByPairs, Links}
use Rattle.bisimulation.proofs.argument.LargestPairs.{shared, shared-links, as-pairs}
use Rattle.bisimulation.proofs.argument.Plain.{plain}
use Rattle.bisimulation.specs.definitions.Joined.{IsJoined}
use Rattle.bisimulation.specs.definitions.Beside.{block_of, Linked, IsMerged, SharesBlocks}
use Rattle.bisimulation.proofs.argument.Parts.{parts, nothing}
use Rattle.bisimulation.proofs.argument.PartsLaws.{by_parts, in_first, in_second}
use Rattle.bisimulation.proofs.argument.Moves.{plain_movement, start, Moves, Couples, MetBy, Nothing}
use Rattle.bisimulation.proofs.argument.MovesLaws.{moves_cong, nothing_couples, couples_cong, moves_times, start_times, own_layers, own_moves}
use Rattle.bisimulation.proofs.argument.PlainMoves.{plain_by, plain_once, plain_any_source}
use Rattle.bisimulation.proofs.argument.JoinedMoves.{each_transition, nothing_for, first_answers, second_answers, first_met, second_met}

-- being linked as a set of pairs
module _ (A Q : Automaton) (block : ℕ → ℕ) where
  abbrev linked_pairs : Pairs
  linked_pairs = shared (A.states + Q.states) (block_of A block)

  as_pairs : (v u : ℕ) → Links linked_pairs v u ↔ Linked A Q block v u
  as_pairs v u =
      let links = shared-links (A.states + Q.states) (block_of A block) v u in
      (λ h. let x = links.0 h in record { first = x.0; second = x.1; same = x.2 }, λ h. links.1 (h.first, h.second, h.same))

-- a choice that is the same for all terms
sum_chosen : (n b c : ℕ) (f : ℕ → ℕ) → sum n (λ v. if_same b c (f v) 0) ≡ if_same b c (sum n f) 0
sum_chosen n b c f = go (ℕ_discrete b c)
  where
    go : Dec (b ≡ c) → sum n (λ v. if_same b c (f v) 0) ≡ if_same b c (sum n f) 0
    go (yes e) = same 0 e (sum_cong n _ _ (λ v l. sym (same 0 e refl)))
    go (no e) = not_same (sum n f) e (sum_zero n _ (λ v l. sym (not_same (f v) e refl)))

-- the sum over the blocks of what is in one of them
sum_one : (m b x : ℕ) → b < m → sum m (λ c. if_same b c x 0) ≡ x
sum_one m b x l = sum_cong m _ _ (λ c i. turned b c x 0) ∙ sum_same m b (λ c. x) l

-- sums over the states in a block: all blocks together, and a factor
module _ (n : ℕ) (block f : ℕ → ℕ) where
  all_blocks : (m : ℕ) → ((u : ℕ) → u < n → block u < m) → sum m (λ c. sum n (λ u. if_same (block u) c (f u) 0)) ≡ sum n f
  all_blocks m below = sum_exchange m n (λ c u. if_same (block u) c (f u) 0) ∙ sum_cong n _ _ (λ u l. sum_one m (block u) (f u) (below u l))

  block_times : (x c : ℕ) → sum n (λ u. if_same (block u) c (f u * x) 0) ≡ sum n (λ u. if_same (block u) c (f u) 0) * x
  block_times x c = sum_cong n _ _ (λ u l. sym (times_same (block u) c (f u) x)) ∙ sum_times_right n x (λ u. if_same (block u) c (f u) 0)

module _ (A Q J : Automaton) (block : ℕ → ℕ) (sound_a : SoundAutomaton A) (sound_q : SoundAutomaton Q) (j : IsJoined A Q J) (merged : IsMerged A Q block) where
  abbrev n : ℕ
  n = A.states

  abbrev Link : ℕ → ℕ → Type 0
  Link = Linked A Q block

  -- the block of an original state and of a merged one
  pub block_first : (v : ℕ) → v < A.states → block_of A block v ≡ block v
  unfolding block_of parts
  block_first v l = in_first n block (λ c. c) v l

  pub block_second : (c : ℕ) → block_of A block (A.states + c) ≡ c
  unfolding block_of parts
  block_second c = in_second n block (λ c. c) c

  -- who is linked
  link : (b v u : ℕ) → v < n + Q.states → u < n + Q.states → block_of A block v ≡ b → block_of A block u ≡ b → Link v u
  link b v u l k e f = record { first = l; second = k; same = e ∙ sym f }

  -- symmetric, and keeps labels
  pub linked_symmetric : (v u : ℕ) → Linked A Q block v u → Linked A Q block u v
  linked_symmetric v u l = record { first = l.second; second = l.first; same = sym l.same }

  label_of : (v : ℕ) → v < n + Q.states → J.label v ≡ Q.label (block_of A block v)
  label_of =
      by_parts n Q.states (λ v. J.label v ≡ Q.label (block_of A block v))
      (λ v l. j.first_label v l ∙ sym (merged.label v l) ∙ ap Q.label (sym (block_first v l)))
      (λ c l. j.second_label c l ∙ ap Q.label (sym (block_second c)))

  pub linked_labels : (v u : ℕ) → Linked A Q block v u → J.label v ≡ J.label u
  linked_labels v u l = label_of v l.first ∙ ap Q.label l.same ∙ sym (label_of u l.second)

  -- a merged state asks itself
  pub merged_itself : (q : ℕ) → q < Q.transitions → Met J (Linked A Q block) (A.transitions + q) (A.states + Q.source q)
  merged_itself q l = second_met A Q J j sound_a plain_by plain_any_source (λ v u. v ≡ u) Link (λ v u i k e. link u _ _ (omega arith) (omega arith) (block_second v ∙ e) (block_second u)) q (Q.source q) l (plain_own Q sound_q (λ v u. v ≡ u) (λ s i. refl) q l)

  -- an original state asks a merged one: the transition that stands for the challenger, alone
  module _ (r q : ℕ) (below : r < A.transitions) (l : q < Q.transitions) (s : StandsFor A Q block q r) where
    abbrev d : ℕ
    d = A.denominator r

    -- w from the merged state c to u: p(u) times the merged denominator, for u in c
    back : ℕ → ℕ → ℕ
    back c u = if_same (block u) c (A.weight r u * Q.denominator q) 0

    back_moves : Moves Q (plain_movement (J.action r)) (λ i c. d * own_layers q (plain_once (Q.action q) (Q.source q)).layer i c) (start (Q.source q) (d * Q.denominator q)) (λ c. over_targets A back c + over_targets Q nothing c)
    unfolding over_targets back weight_into
    back_moves =
        moves_cong (λ v i. start_times d (Q.source q) (Q.denominator q) v)
        (λ c i. omega (arith, s.probability c i, block_times n block (A.weight r) (Q.denominator q) c, nothing_for Q c))
        (ap plain_movement (s.action ∙ sym (j.first_action r below)))
        (moves_times Q d (own_moves Q q l (plain_once (Q.action q) (Q.source q))))

    back_couples : Couples (λ c u. Link (n + c) u) Q.states n d (d * Q.denominator q) (A.weight r) back
    unfolding back
    back_couples =
        record {
          related = λ c u k i z. link c _ _ (omega arith) (omega arith) (block_second c) (block_first u i ∙ (kept_same _ 0 (block u) c (λ (e : back c u ≡ 0). omega arith) refl).0);
          target = λ u i. ap (λ (z : ℕ). d * z) (sum_one Q.states (block u) (A.weight r u * Q.denominator q) (merged.below u i)) ∙ omega arith;
        }

    pub original_asks_merged : Met J (Linked A Q block) r (A.states + Q.source q)
    unfolding SoundAutomaton
    original_asks_merged =
        plain_by.from J Link r (n + Q.source q)
        (second_answers A Q J j sound_a (plain_any_source _) Link r (Q.source q) (d * Q.denominator q) (mul-pos (sound_a r below).positive (sound_q q l).positive) back nothing
        back_moves
        (couples_cong (λ c u k i e. e) (j.first_denominator r below) (λ u i. j.first_weight r u below i) back_couples)
        (nothing_couples (λ u i. j.first_only r (n + u) below (omega arith))))

  module _ (Same : ℕ → ℕ → Type 0) (shares : SharesBlocks A block Same) where
    -- an original state asks another
    pub original_asks_original : (r t : ℕ) → r < A.transitions → t < A.states → Met A Same r t → Met J (Linked A Q block) r t
    original_asks_original r t l below m = first_met A Q J j sound_a plain_by plain_any_source Same Link (λ v u i k e. link (block u) v u (omega arith) (omega arith) (block_first v i ∙ (shares v u i k).0 e) (block_first u k)) r t l below m

    -- a merged state asks an original one: the flow against the transition that it stands for
    module _ (r q : ℕ) (below : r < A.transitions) (l : q < Q.transitions) (s : StandsFor A Q block q r) (t : ℕ) (state : t < A.states) (m : Met A Same r t) where
      abbrev x : MetBy A (plain_movement (A.action r)) (Nothing A r t) Same r t
      x = plain_by.to A Same r t m

      -- w from v to the merged state c: the sum of w(v,u) over u in c
      over : ℕ → ℕ → ℕ
      over v c = sum n (λ u. if_same (block u) c (x.flow.w v u) 0)

      over_moves : Moves A (plain_movement (J.action (A.transitions + q))) x.flow.k (start t x.flow.D) (λ v. over_targets A nothing v + over_targets Q over v)
      unfolding over_targets over
      over_moves =
          moves_cong (λ v i. refl)
          (λ v i. omega (arith, nothing_for A v, all_blocks n block (x.flow.w v) Q.states merged.below))
          (ap plain_movement (sym s.action ∙ sym (j.second_action q l)))
          x.moves

      over_couples : Couples (λ v c. Link v (n + c)) n Q.states (Q.denominator q) x.flow.D (Q.weight q) over
      unfolding over weight_into SoundAutomaton
      over_couples = record { related = λ v c i k z. link c _ _ (omega arith) (omega arith) (block_first v i ∙ used v c i z (ℕ_discrete (block v) c)) (block_second c); target = target }
        where
          unused : (v c u : ℕ) → v < n → u < n → (block v ≡ c → ⊥) → (x.flow.w v u ≡ 0) ⊎ (0 < x.flow.w v u) → if_same (block u) c (x.flow.w v u) 0 ≡ 0
          unused v c u i k other (inl e) = either_same (λ z. z ≡ 0) (block u) c e refl
          unused v c u i k other (inr p) = sym (not_same _ (λ e. other ((shares v u i k).0 (x.couples.related v u i k p) ∙ e)) refl)

          used : (v c : ℕ) → v < n → 0 < over v c → Dec (block v ≡ c) → block v ≡ c
          used v c i z (yes e) = e
          used v c i z (no other) = absurd (omega (arith, sum_zero n (λ u. if_same (block u) c (x.flow.w v u) 0) (λ u k. unused v c u i k other (eq-zero-or-pos (x.flow.w v u)))))

          d : ℕ
          d = A.denominator r

          T : ℕ → ℕ
          T u = sum n (λ v. x.flow.w v u)

          gathered : (c : ℕ) → sum n (λ v. over v c) ≡ sum n (λ u. if_same (block u) c (T u) 0)
          gathered c = sum_exchange n n (λ v u. if_same (block u) c (x.flow.w v u) 0) ∙ sum_cong n _ _ (λ u k. sum_chosen n (block u) c (λ v. x.flow.w v u))

          brought : (c : ℕ) → sum n (λ v. over v c) * d ≡ weight_into A block r c * x.flow.D
          brought c =
              ap (λ (z : ℕ). z * d) (gathered c)
              ∙ sym (block_times n block T d c)
              ∙ sum_cong n _ _ (λ u k. ap (λ (z : ℕ). if_same (block u) c z 0) (mul_comm (T u) d ∙ x.couples.target u k))
              ∙ block_times n block (A.weight r) x.flow.D c

          target : (c : ℕ) → c < Q.states → Q.denominator q * sum n (λ v. over v c) ≡ Q.weight q c * x.flow.D
          target c k =
              eq_of_mul-eq-mul_left d (sound_a r below).positive _ _
              (omega (arith, ap (λ (z : ℕ). Q.denominator q * z) (brought c), ap (λ (z : ℕ). x.flow.D * z) (s.probability c k)))

      pub merged_asks_original : Met J (Linked A Q block) (A.transitions + q) t
      merged_asks_original =
          plain_by.from J Link (A.transitions + q) t
          (first_answers A Q J j sound_a (plain_any_source _) Link (A.transitions + q) t x.flow.D x.at_least_one nothing over state
          over_moves
          (nothing_couples (λ u i. j.second_only q u l i))
          (couples_cong (λ v c i k e. e) (j.second_denominator q l) (λ c k. j.second_weight q c l k) over_couples))

    -- a transition of one of them asks t
    module _ (meets : MeetsStepRule Met A Same) where
      first_asks : (r : ℕ) → r < A.transitions → (t : ℕ) → Link (A.source r) t → Met J Link r t
      unfolding SoundAutomaton
      first_asks r l t w = by_parts n Q.states (λ u. Link (A.source r) u → Met J Link r u) original standing t w.second w
        where
          from : A.source r < n
          from = (sound_a r l).from

          original : (u : ℕ) → u < n → Link (A.source r) u → Met J Link r u
          original u i e = original_asks_original r u l i (meets.met (A.source r) u ((shares _ u from i).1 (sym (block_first _ from) ∙ e.same ∙ block_first u i)) r l refl)

          standing : (c : ℕ) → c < Q.states → Link (A.source r) (n + c) → Met J Link r (n + c)
          standing c i e =
              let kept = merged.transitions.kept r l in
              let at : Q.source kept.0 ≡ c = kept.2.source ∙ sym (block_first _ from) ∙ e.same ∙ block_second c in
              subst (λ (u : ℕ). Met J Link r (n + u)) at (original_asks_merged r kept.0 l kept.1 kept.2)

      second_asks : (q : ℕ) → q < Q.transitions → (t : ℕ) → Link (n + Q.source q) t → Met J Link (A.transitions + q) t
      unfolding SoundAutomaton
      second_asks q l t w = by_parts n Q.states (λ u. Link (n + Q.source q) u → Met J Link (A.transitions + q) u) original standing t w.second w
        where
          original : (u : ℕ) → u < n → Link (n + Q.source q) u → Met J Link (A.transitions + q) u
          original u i e =
              let comes = merged.transitions.comes q l in
              let from = (sound_a comes.0 comes.1).from in
              let one : block (A.source comes.0) ≡ block u = sym comes.2.source ∙ sym (block_second _) ∙ e.same ∙ block_first u i in
              merged_asks_original comes.0 q comes.1 l comes.2 u i (meets.met _ u ((shares _ u from i).1 one) comes.0 comes.1 refl)

          standing : (c : ℕ) → c < Q.states → Link (n + Q.source q) (n + c) → Met J Link (A.transitions + q) (n + c)
          standing c i e =
              let at : Q.source q ≡ c = sym (block_second _) ∙ e.same ∙ block_second c in
              subst (λ (u : ℕ). Met J Link (A.transitions + q) (n + u)) at (merged_itself q l)

      linked_meets : MeetsStepRule Met J Link
      linked_meets =
          record {
            met = λ s t w q i f.
                each_transition A Q J j (λ r. J.source r ≡ s → Met J Link r t)
                (λ r l e. first_asks r l t (subst (λ (v : ℕ). Link v t) (sym e ∙ j.first_source r l) w))
                (λ r l e. second_asks r l t (subst (λ (v : ℕ). Link v t) (sym e ∙ j.second_source r l) w))
                q i f;
          }

      -- 'That relation is symmetric, keeps labels and meets the step rule'
      pub linked_bisimulation : Bisimulation Met J (Linked A Q block)
      linked_bisimulation =
          record {
            on_states = λ s t w. (omega (arith, j.states, w.first), omega (arith, j.states, w.second));
            symmetric = linked_symmetric;
            keeps_labels = linked_labels;
            meets = linked_meets;
          }

      -- an original state and the one that stands for its block are linked by it, which is a set of pairs
      pub stand_in_bisimilar : (v : ℕ) → v < A.states → BisimilarByPairs Met J v (A.states + block v)
      stand_in_bisimilar v l =
          record {
            W = linked_pairs A Q block;
            bisimulation = as-pairs plain (linked_pairs A Q block) (as_pairs A Q block) linked_bisimulation;
            linked = (as_pairs A Q block v (n + block v)).1 (link (block v) v (n + block v) (omega arith) (omega (arith, merged.below v l)) (block_first v l) (block_second (block v)));
          }
