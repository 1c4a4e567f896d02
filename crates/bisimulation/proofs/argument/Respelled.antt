-- A flow for one spelling of an automaton, scaled to a flow for another: every number by the product of the new denominators, and k so
-- that no probability changes.
use Rattle.std.specs.Prelude.{ℕ, ◌*◌, ◌/◌, ◌<◌, ◌≡◌}
use Rattle.std.proofs.Common.{sym, ◌∙◌, mul-pos, arith}
use Rattle.std.proofs.Math.Path.{ap}
use Rattle.std.proofs.Math.Nat.{div-mul_cancel, eq_of_mul-eq-mul_left}
use Rattle.bisimulation.specs.definitions.Sum.{sum}
use Rattle.bisimulation.proofs.argument.SumLaws.{sum_times}
use Rattle.bisimulation.proofs.argument.Product.{product}
use Rattle.bisimulation.proofs.argument.ProductLaws.{product_positive, factor_divides}
use Rattle.bisimulation.specs.definitions.Rule.{MetRespelled}
use Rattle.bisimulation.specs.definitions.Automaton.{Automaton, SoundAutomaton, SameProbabilities}
use Rattle.bisimulation.specs.definitions.StepRule.{Flow, over_targets, StepRule, Met}
use Rattle.bisimulation.proofs.argument.Moves.{Movement, Besides, ByMovement}
use Rattle.bisimulation.proofs.argument.MovesLaws.{used_times, moves_cong, Scaled, scaled, moves_scaled, start_times}
use Rattle.bisimulation.proofs.argument.PlainMoves.{plain_by}

-- the product of the denominators
unfoldable pub multiple : Automaton → ℕ
multiple B = product B.transitions B.denominator

-- the k of one layer
unfoldable pub respelled_layer : (A B : Automaton) → (ℕ → ℕ) → ℕ → ℕ
respelled_layer A B k r = k r * A.denominator r * (multiple B / B.denominator r)

-- the flow
unfoldable pub respelled_flow : (A B : Automaton) → Flow → Flow
respelled_flow A B f =
    record {
      D = multiple B * f.D;
      k = λ l. respelled_layer A B (f.k l);
      w = λ v u. multiple B * f.w v u;
    }

module _ (A B : Automaton) (sound_a : SoundAutomaton A) (sound_b : SoundAutomaton B) (e : SameProbabilities A B) where
  pub multiple_positive : 0 < multiple B
  unfolding multiple SoundAutomaton
  multiple_positive = product_positive B.transitions B.denominator (λ r l. (sound_b r l).positive)

  -- the share of a denominator in the multiple
  share : (r : ℕ) → r < B.transitions → multiple B / B.denominator r * B.denominator r ≡ multiple B
  unfolding multiple
  share r l = div-mul_cancel (B.denominator r) (factor_divides B.transitions B.denominator r l)

  -- k times d and k times p(v), scaled
  module _ (k : ℕ → ℕ) (r : ℕ) (l : r < B.transitions) where
    pub respelled_denominator : respelled_layer A B k r * B.denominator r ≡ multiple B * (k r * A.denominator r)
    unfolding respelled_layer
    respelled_denominator = omega (arith, ap (λ (z : ℕ). k r * A.denominator r * z) (share r l))

    pub respelled_weight : (v : ℕ) → v < A.states → respelled_layer A B k r * B.weight r v ≡ multiple B * (k r * A.weight r v)
    unfolding respelled_layer
    respelled_weight v j = omega (arith, ap (λ (z : ℕ). k r * A.weight r v * z) (share r l), ap (λ (z : ℕ). k r * (multiple B / B.denominator r) * z) (e.probability r v (omega arith) j))

  -- each side of an equation is scaled
  layer_respelled : (k : ℕ → ℕ) → Scaled A B (multiple B) k (respelled_layer A B k)
  unfolding respelled_layer
  layer_respelled k =
      scaled e.transitions e.source e.action
      (λ r u. used_times (k r) (A.denominator r) (used_times (k r * A.denominator r) (multiple B / B.denominator r) u))
      (respelled_denominator k) (λ r v l. respelled_weight k r l v)

  pub over_targets_respelled : (w : ℕ → ℕ → ℕ) (v : ℕ) → over_targets B (λ x u. multiple B * w x u) v ≡ multiple B * over_targets A w v
  unfolding over_targets
  over_targets_respelled w v = sum_times B.states (multiple B) (λ u. w v u) ∙ ap (λ (n : ℕ). multiple B * sum n (λ u. w v u)) (sym e.states)

  -- the equations at the targets
  target_respelled : (w : ℕ → ℕ → ℕ) (D q u : ℕ) → q < A.transitions → u < A.states → A.denominator q * sum A.states (λ v. w v u) ≡ A.weight q u * D → B.denominator q * sum B.states (λ v. multiple B * w v u) ≡ B.weight q u * (multiple B * D)
  unfolding SoundAutomaton
  target_respelled w D q u i j h =
      ap (λ (z : ℕ). B.denominator q * z) (sum_times B.states (multiple B) (λ v. w v u) ∙ ap (λ (n : ℕ). multiple B * sum n (λ v. w v u)) (sym e.states))
      ∙ eq_of_mul-eq-mul_left (A.denominator q) (sound_a q i).positive _ _
      (omega (arith, ap (λ (z : ℕ). B.denominator q * multiple B * z) h, ap (λ (z : ℕ). multiple B * D * z) (e.probability q u i j)))

-- what is met by a movement is met by the scaled flow
pub respelled_by : {met : StepRule} {movement : (a t : ℕ) → Movement} {More : Besides} → ByMovement met movement More → ((A B : Automaton) → SoundAutomaton A → SoundAutomaton B → SameProbabilities A B → (q t : ℕ) (f : Flow) → q < A.transitions → More A q t f → More B q t (respelled_flow A B f)) → MetRespelled met
unfolding respelled_flow
respelled_by {movement = movement} by more A B sound_a sound_b e W q t i m =
    let o = by.to A W q t m in
    let f = o.flow in
    by.from B W q t
    (record {
      flow = respelled_flow A B f;
      at_least_one = mul-pos (multiple_positive A B sound_a sound_b e) o.at_least_one;
      moves =
          moves_cong (λ v l. start_times (multiple B) t f.D v) (λ v l. sym (over_targets_respelled A B sound_a sound_b e f.w v)) (ap (λ (a : ℕ). movement a t) (e.action q i))
          (moves_scaled (multiple B) (sym e.states) (λ l. layer_respelled A B sound_a sound_b e (f.k l)) o.moves);
      couples = record {
        related = λ v u l j z. o.couples.related v u (omega (arith, e.states)) (omega (arith, e.states)) (used_times (f.w v u) (multiple B) (omega arith));
        target = λ u l. let j : u < A.states = omega (arith, e.states) in target_respelled A B sound_a sound_b e f.w f.D q u i j (o.couples.target u j);
      };
      more = more A B sound_a sound_b e q t f i o.more;
    })

-- document 01's rule
pub plain_respelled : MetRespelled Met
plain_respelled = respelled_by plain_by (λ A B sound_a sound_b e q t f i m. tt)
