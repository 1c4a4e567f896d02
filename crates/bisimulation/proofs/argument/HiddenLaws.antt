-- 'and the relation itself does so after hiding': a challenger that is still internal or external keeps its flow; where it is hidden, the
-- layers are added up.
use Prim.Native.Nat.{ℕ, zero, suc, ◌+◌, ◌*◌, ◌≤◌, ◌<◌}
use Rattle.std.specs.Prelude.{◌≡◌, ◌⊎◌, ◌≢◌, Bool, true}
use Rattle.std.proofs.Math.Path.{refl, ap, ap₂}
use Rattle.std.proofs.Common.{sym, ◌∙◌, subst, subst₂, inl, inr, le_refl, eq-zero-or-pos, arith}
use Rattle.bisimulation.specs.definitions.Choice.{if_same}
use Rattle.bisimulation.proofs.argument.ChoiceLaws.{either_true, false-not}
use Rattle.bisimulation.specs.definitions.Sum.{sum}
use Rattle.bisimulation.proofs.argument.SumLaws.{sum_cong}
use Rattle.bisimulation.specs.definitions.Automaton.{Automaton}
use Rattle.bisimulation.specs.definitions.StepRule.{Flow, arriving, leaving, over_targets, StepRule, Met}
use Rattle.bisimulation.specs.definitions.Largest.{Bisimulation}
use Rattle.bisimulation.specs.definitions.Hidden.{hidden_action, IsHidden}
use Rattle.bisimulation.proofs.argument.Once.{none}
use Rattle.bisimulation.proofs.argument.Moves.{Layer, Movement, internally, internal_movement, plain_movement, start, Through, Moves, MetBy, Nothing}
use Rattle.bisimulation.proofs.argument.MovesLaws.{moves_cong, through_cong, stays}
use Rattle.bisimulation.proofs.argument.OneLayer.{moves_one}
use Rattle.bisimulation.proofs.argument.PlainMoves.{either_movement, external_of, plain_by}
use Rattle.bisimulation.proofs.argument.PlainAllowed.{plain_allowed}
use Rattle.bisimulation.proofs.argument.LayerValues.{arriving_add, leaving_add}

-- what is internal stays so, and what is not hidden stays what it is
hidden_internal : (chosen : ℕ → Bool) → hidden_action chosen 0 ≡ 0
unfolding hidden_action
hidden_internal chosen = either_true (λ (z : ℕ). z ≡ 0) (chosen 0) refl refl

hidden_kept : (chosen : ℕ → Bool) (a : ℕ) → hidden_action chosen a ≢ 0 → hidden_action chosen a ≡ a
unfolding hidden_action
hidden_kept chosen a = either_true (λ (z : ℕ). z ≢ 0 → z ≡ a) (chosen a) (λ n. absurd (n refl)) (λ n. refl)

-- two layers that are no steps, one after the other, added up
through_added : (A : Automaton) {l : Layer} {k h x y z : ℕ → ℕ} → (l.step ≡ true → ⊥) → Through A l k x y → Through A l h y z → Through A l (λ r. k r + h r) x z
through_added A {l} {k} {h} {x} {y} {z} no_step first second =
    record {
      uses = λ r i u. go r i u (eq-zero-or-pos (k r));
      balance = λ v i. omega (arith, arriving_add A k h v, leaving_add A k h v, first.balance v i, second.balance v i);
      all = λ s. absurd (no_step s);
    }
  where
    go : (r : ℕ) → r < A.transitions → 0 < k r + h r → (k r ≡ 0) ⊎ (0 < k r) → l.allows (A.source r) (A.action r)
    go r i u (inl e) = second.uses r i (omega arith)
    go r i u (inr p) = first.uses r i p

module _ (chosen : ℕ → Bool) (A H : Automaton) (hidden : IsHidden chosen A H) where
  arriving_hidden : (k : ℕ → ℕ) (v : ℕ) → v < A.states → arriving H k v ≡ arriving A k v
  unfolding arriving
  arriving_hidden k v i =
      ap (λ (n : ℕ). sum n (λ q. k q * H.weight q v)) hidden.transitions
      ∙ sum_cong A.transitions _ _ (λ q l. ap (λ (z : ℕ). k q * z) (hidden.weight q v l i))

  leaving_hidden : (k : ℕ → ℕ) (v : ℕ) → leaving H k v ≡ leaving A k v
  unfolding leaving
  leaving_hidden k v =
      ap (λ (n : ℕ). sum n (λ q. if_same (H.source q) v (k q * H.denominator q) 0)) hidden.transitions
      ∙ sum_cong A.transitions _ _ (λ q l. ap₂ (λ (s d : ℕ). if_same s v (k q * d) 0) (hidden.source q l) (hidden.denominator q l))

  -- a layer that allows what is hidden where it was allowed before
  pub through_hidden : {l l' : Layer} {k x y : ℕ → ℕ} → ((s b : ℕ) → l.allows s b → l'.allows s (hidden_action chosen b)) → (l'.step ≡ true → l.step ≡ true) → Through A l k x y → Through H l' k x y
  through_hidden {l} {l'} {k} allows steps t =
      record {
        uses = λ r i u. let j : r < A.transitions = omega (arith, hidden.transitions) in
            subst₂ l'.allows (sym (hidden.source r j)) (sym (hidden.action r j)) (allows _ _ (t.uses r j u));
        balance = λ v i. let j : v < A.states = omega (arith, hidden.states) in omega (arith, arriving_hidden k v j, leaving_hidden k v, t.balance v j);
        all = λ s v i. leaving_hidden k v ∙ t.all (steps s) v (omega (arith, hidden.states));
      }

  module _ {m : Movement} {k : ℕ → ℕ → ℕ} {x y : ℕ → ℕ} (o : Moves A m k x y) where
    -- every layer uses only transitions that keep their actions: the same layers
    moves_kept : ((i : ℕ) → i < m.count → (s b : ℕ) → (m.layer i).allows s b → hidden_action chosen b ≡ b) → Moves H m k x y
    moves_kept kept =
        record {
          between = o.between;
          starts = λ v i. o.starts v (omega (arith, hidden.states));
          through = λ i l. through_hidden (λ s b h. subst ((m.layer i).allows s) (sym (kept i l s b h)) h) (λ s. s) (o.through i l);
          ends = λ v i. o.ends v (omega (arith, hidden.states));
        }

    -- only transitions that are internal then: the layers added up
    module _ (internal : (i : ℕ) → i < m.count → (s b : ℕ) → (m.layer i).allows s b → hidden_action chosen b ≡ 0) where
      up_to : (i : ℕ) → i ≤ m.count → Through H internally (λ r. sum i (λ j. k j r)) (o.between 0) (o.between i)
      unfolding sum none
      up_to zero l = stays H internally (o.between 0) (o.between 0) (λ v i. refl) (λ s. absurd (false-not s))
      up_to (suc i) l = through_added H false-not (up_to i (omega arith)) (through_hidden (internal i (omega arith)) (λ s. absurd (false-not s)) (o.through i (omega arith)))

      moves_added : Moves H internal_movement (λ i r. sum m.count (λ j. k j r)) x y
      moves_added = moves_one (through_cong (λ v i. o.starts v (omega (arith, hidden.states))) (λ v i. o.ends v (omega (arith, hidden.states))) (up_to m.count (le_refl _)))

  module _ (W : ℕ → ℕ → Type 0) (q t : ℕ) (l : q < A.transitions) where
    abbrev a : ℕ
    a = A.action q

    -- the same D and w, with the k of H
    pub hidden_by : {m m' : Movement} {More More' : Flow → Type 0} {k : ℕ → ℕ → ℕ} (o : MetBy A m More W q t) → Moves H m' k (start t o.flow.D) (over_targets A o.flow.w) → More' (record { D = o.flow.D; k = k; w = o.flow.w }) → MetBy H m' More' W q t
    unfolding over_targets
    hidden_by {k = k} o moves more =
        let w = o.flow.w in
        record {
          flow = record { D = o.flow.D; k = k; w = w };
          at_least_one = o.at_least_one;
          moves = moves_cong (λ v i. refl) (λ v i. ap (λ (n : ℕ). sum n (λ u. w v u)) (sym hidden.states)) refl moves;
          couples = record {
            related = λ v u i j. o.couples.related v u (omega (arith, hidden.states)) (omega (arith, hidden.states));
            target = λ u i. let j : u < A.states = omega (arith, hidden.states) in
                ap₂ (λ (d n : ℕ). d * sum n (λ v. w v u)) (hidden.denominator q l) hidden.states
                ∙ o.couples.target u j
                ∙ ap (λ (z : ℕ). z * o.flow.D) (sym (hidden.weight q u l j));
          };
          more = more;
        }

    hidden_met : Met A W q t → Met H W q t
    hidden_met met =
        plain_by.from H W q t
        (either_movement P
        (λ e. hidden_by o (moves_added o.moves (λ i j s b h. all_internal e b (plain_allowed a i j s b h))) tt)
        (λ n. external_of P (hidden_by o (kept n) tt) n))
      where
        P : Movement → Type 0
        P m = MetBy H m (Nothing H q t) W q t

        o : MetBy A (plain_movement a) (Nothing A q t) W q t
        o = plain_by.to A W q t met

        all_internal : H.action q ≡ 0 → (b : ℕ) → (b ≡ 0) ⊎ (b ≡ a) → hidden_action chosen b ≡ 0
        all_internal e b (inl z) = ap (hidden_action chosen) z ∙ hidden_internal chosen
        all_internal e b (inr z) = ap (hidden_action chosen) z ∙ sym (hidden.action q l) ∙ e

        all_kept : H.action q ≢ 0 → (b : ℕ) → (b ≡ 0) ⊎ (b ≡ a) → hidden_action chosen b ≡ b
        all_kept n b (inl z) = ap (hidden_action chosen) z ∙ hidden_internal chosen ∙ sym z
        all_kept n b (inr z) = ap (hidden_action chosen) z ∙ hidden_kept chosen a (λ e. n (hidden.action q l ∙ e)) ∙ sym z

        kept : H.action q ≢ 0 → Moves H (plain_movement (H.action q)) o.flow.k (start t o.flow.D) (over_targets A o.flow.w)
        kept n =
            moves_cong (λ v i. refl) (λ v i. refl) (ap plain_movement (sym (hidden.action q l ∙ all_kept n a (inr refl))))
            (moves_kept o.moves (λ i j s b h. all_kept n b (plain_allowed a i j s b h)))

-- a rule whose questions are still met after hiding
pub bisimulation_hidden : {rule : StepRule} {chosen : ℕ → Bool} {A H : Automaton} {W : ℕ → ℕ → Type 0} → IsHidden chosen A H → ((q t : ℕ) → q < A.transitions → rule A W q t → rule H W q t) → Bisimulation rule A W → Bisimulation rule H W
bisimulation_hidden {A = A} hidden met b =
    record {
      on_states = λ s t w. let o = b.on_states s t w in (omega (arith, hidden.states, o.0), omega (arith, hidden.states, o.1));
      symmetric = b.symmetric;
      keeps_labels = λ s t w. let o = b.on_states s t w in hidden.label s o.0 ∙ b.keeps_labels s t w ∙ sym (hidden.label t o.1);
      meets = record { met = λ s t w q i e. let l : q < A.transitions = omega (arith, hidden.transitions) in met q t l (b.meets.met s t w q l (sym (hidden.source q l) ∙ e)) };
    }

-- 'If a symmetric relation keeps labels and meets the step rule on the left model, then .. the relation itself does so after hiding'
pub hidden_bisimulation : (chosen : ℕ → Bool) (A H : Automaton) → IsHidden chosen A H → (W : ℕ → ℕ → Type 0) → Bisimulation Met A W → Bisimulation Met H W
hidden_bisimulation chosen A H hidden W = bisimulation_hidden hidden (hidden_met chosen A H hidden W)
