-- The sums over a flow's entries decide the equations of each step rule.
use Prim.Native.Nat.{ℕ, zero, suc, ◌+◌, ◌*◌, ◌<◌}
use Rattle.std.specs.Prelude.{◌≡◌, ◌≢◌, Bool, true, false, List, eqb}
use Rattle.std.proofs.Math.Path.{refl, sym, ap, ap₂}
use Rattle.std.proofs.Common.{◌∙◌, arith}
use Rattle.std.proofs.Math.IntN.{sub_ℕ}
use Rattle.std.proofs.Math.Decide.{ℕ_discrete}
use Rattle.bisimulation.specs.definitions.Choice.{if_same, if_true, unless_same, both}
use Rattle.bisimulation.proofs.argument.ChoiceLaws.{same, not_same, is_true, not_true, either_same}
use Rattle.bisimulation.specs.definitions.Automaton.{Automaton}
use Rattle.bisimulation.proofs.argument.SumLaws.{sum_times}
use Rattle.bisimulation.specs.definitions.Pairs.{Pairs, is_pair}
use Rattle.bisimulation.proofs.argument.PairsLaws.{is_pair_true, is_pair_of}
use Rattle.bisimulation.specs.definitions.StepRule.{Flow, Sides, arriving, leaving, over_targets, over_sources, before_move, after_move, internal_move, at_target}
use Rattle.rules.specs.definitions.Bytes.{byte_at, two_at, three_at, four_at}
use Rattle.rules.specs.definitions.Certificate.{FileRule, k_count_at, after_k, w_count_at, k_of, w_of, flow_at, k_fault, w_fault}
use Rattle.rules.specs.definitions.Faults.{Fault, fault_by, fault, no_fault, first_of, Passes}
use Rattle.rules.specs.definitions.PlainRule.{break_from, first_break, internal_equations_fault, external_equations_fault, plain_equations_fault}
use Rattle.rules.proofs.argument.PlainDecides.{kind-internal, kind-external}
use Rattle.rules.proofs.argument.FaultLaws.{first_stops, first-none, first_passes}
use Rattle.rules.proofs.argument.BreakLaws.{break-none}
use Rattle.rules.proofs.argument.EntryFaults.{passed-k, passed-w}
use Rattle.costs.specs.definitions.CostStepRule.{cost_of_layer, cost_equation}
use Rattle.costs.proofs.argument.CostLaws.{internal_cost, external_cost}
use Rattle.costs.proofs.argument.Free.{free}
use Rattle.cost_files.specs.definitions.CostFile.{cost_equation_fault}
use Rattle.entries_k.specs.Taking.{k_sum, cost_of_k}
use Rattle.equations.specs.Differences.{w_sum, k_total, w_total, before_left, before_right, after_left, after_right, taken_at, given_at, first_left, first_right, second_left, second_right, target_left, target_right, cost_left, cost_right, sides_of, before_break, after_break, target_break, cost_break}
use Rattle.equations.specs.EntrySums.{Entries, turned, added, nothing, over_second}

-- what stands for two numbers where they are the entry's, and where they are not
pair_found : (x y a b value rest : ℕ) → x ≡ a → y ≡ b → if_true (both (eqb x a) (eqb y b)) value rest ≡ value
unfolding is_pair
pair_found x y a b value rest p q = sym (is_true rest (is_pair_of a b x y p q) refl)

pair-passed : (x y a b value rest : ℕ) → (x ≡ a → y ≡ b → ⊥) → if_true (both (eqb x a) (eqb y b)) value rest ≡ rest
unfolding is_pair
pair-passed x y a b value rest n = sym (not_true value (λ e. let p = is_pair_true a b x y e in n p.0 p.1) refl)

-- what is known of a k entry without fault: where there is no move it is of layer 0
record GoodK (A : Automaton) (C : List ℕ) (moves : Bool) (at : ℕ) : Type 0 where
  pub transition : two_at C (at + 1) < A.transitions
  pub layer : byte_at C at < 3
  pub still : moves ≡ false → byte_at C at ≡ 0

-- a rule allows three layers, and one where there is no move
pub record Layered (rule : FileRule) (moves : ℕ → Bool) : Type 0 where
  pub layers : (A : Automaton) (q t layer r : ℕ) → rule.in_question A q t layer r ≡ true → layer < 3
  pub still : (A : Automaton) (q t layer r : ℕ) → rule.in_question A q t layer r ≡ true → moves (A.action q) ≡ false → layer ≡ 0

record GoodW (A : Automaton) (C : List ℕ) (at : ℕ) : Type 0 where
  pub from : byte_at C at < A.states
  pub to : byte_at C (at + 1) < A.states

-- the k entries and the w entries of a certificate
unfoldable k_entries : {rule : FileRule} {moves : ℕ → Bool} → Layered rule moves → Automaton → List ℕ → (q t : ℕ) → Entries
unfolding k_of k_sum three_at
k_entries {rule} {moves} layered A C q t =
    record {
      first = byte_at C;
      second = λ at. two_at C (at + 1);
      value = λ at. four_at C (at + 3);
      size = 7;
      number = λ layer r. layer * 65536 + r;
      Good = GoodK A C (moves (A.action q));
      judged = k_fault rule A C q t;
      look = k_of C;
      total = k_sum C;
      turn = λ left at lowest e.
          let p = passed-k rule A C q t left at lowest e in
          (p.order, record { transition = p.transition; layer = layered.layers A q t _ _ p.allowed; still = layered.still A q t _ _ p.allowed }, p.rest);
      absent = λ at layer r. refl;
      found = λ left at layer r. pair_found (byte_at C at) (two_at C (at + 1)) layer r (four_at C (at + 3)) (k_of C left (at + 7) layer r);
      passed = λ left at layer r. pair-passed (byte_at C at) (two_at C (at + 1)) layer r (four_at C (at + 3)) (k_of C left (at + 7) layer r);
      no_total = λ f at. refl;
      one_more = λ f left at. refl;
    }

unfoldable w_entries : Automaton → List ℕ → Pairs → Entries
unfolding w_of w_sum two_at
w_entries A C R =
    record {
      first = byte_at C;
      second = λ at. byte_at C (at + 1);
      value = λ at. four_at C (at + 2);
      size = 6;
      number = λ v u. v * 256 + u;
      Good = GoodW A C;
      judged = w_fault A C R;
      look = w_of C;
      total = w_sum C;
      turn = λ left at lowest e.
          let p = passed-w A C R left at lowest e in
          (p.order, record { from = p.from; to = p.to }, p.rest);
      absent = λ at v u. refl;
      found = λ left at v u. pair_found (byte_at C at) (byte_at C (at + 1)) v u (four_at C (at + 2)) (w_of C left (at + 6) v u);
      passed = λ left at v u. pair-passed (byte_at C at) (byte_at C (at + 1)) v u (four_at C (at + 2)) (w_of C left (at + 6) v u);
      no_total = λ f at. refl;
      one_more = λ f left at. refl;
    }

-- a term stands in one of three layers, and in one layer or another
one-layer : (layer x : ℕ) → layer < 3 → if_same layer 0 x 0 + if_same layer 1 x 0 + if_same layer 2 x 0 ≡ x
unfolding if_same
one-layer zero x h = omega arith
one-layer (suc zero) x h = omega arith
one-layer (suc (suc zero)) x h = omega arith
one-layer (suc (suc (suc layer))) x h = absurd (omega arith)

or-another : (layer c x : ℕ) → if_same layer c x 0 + if_same layer c 0 x ≡ x
or-another layer c x = go (ℕ_discrete layer c)
  where
    go : Dec (layer ≡ c) → if_same layer c x 0 + if_same layer c 0 x ≡ x
    go (yes p) = omega (arith, same {z = x} 0 p refl, same {z = 0} x p refl)
    go (no p) = omega (arith, not_same {z = 0} x p refl, not_same {z = x} 0 p refl)

-- L and R are the sides of an equation, at each state
pub record AreSides (L R : ℕ → ℕ) (equation : ℕ → Sides) : Type 0 where
  pub left : (v : ℕ) → (equation v).left ≡ L v
  pub right : (v : ℕ) → (equation v).right ≡ R v

-- so the first break is one of that equation
same-break : (number : ℕ) {L R : ℕ → ℕ} {equation : ℕ → Sides} → AreSides L R equation → (left v : ℕ) → break_from number (sides_of L R) left v ≡ break_from number equation left v
unfolding break_from
same-break number s zero v = refl
same-break number {L} {R} {equation} s (suc left) v =
    ap₂ (λ (l r : ℕ). if_same l r (break_from number (sides_of L R) left (v + 1)) (fault_by number v (sub_ℕ l r))) (sym (s.left v)) (sym (s.right v))
    ∙ ap (λ (f : Fault). if_same (equation v).left (equation v).right f (fault_by number v (sub_ℕ (equation v).left (equation v).right))) (same-break number s left (v + 1))

pub same_first : (A : Automaton) (number : ℕ) {L R : ℕ → ℕ} {equation : ℕ → Sides} → AreSides L R equation → first_break A number (sides_of L R) ≡ first_break A number equation
unfolding first_break
same_first A number s = same-break number s A.states 0

-- a break and nothing after it
breaks-alone : (number : ℕ) (equation : ℕ → Sides) → 0 < number → (left v : ℕ) → first_of (break_from number equation left v) no_fault ≡ break_from number equation left v
unfolding break_from
breaks-alone number equation some zero v = sym (first-none _ _ refl refl)
breaks-alone number equation some (suc left) v =
    either_same (λ (f : Fault). first_of f no_fault ≡ f) _ _ (breaks-alone number equation some left (v + 1)) (sym (first_stops _ _ refl (λ z. omega arith)))

break-alone : (A : Automaton) (number : ℕ) (equation : ℕ → Sides) → 0 < number → first_of (first_break A number equation) no_fault ≡ first_break A number equation
unfolding first_break
break-alone A number equation some = breaks-alone number equation some A.states 0

-- the first of three faults
pub first-again : (x y z : Fault) → first_of x (first_of y z) ≡ first_of (first_of x y) z
first-again x y z = go (ℕ_discrete x.number 0)
  where
    go : Dec (x.number ≡ 0) → first_of x (first_of y z) ≡ first_of (first_of x y) z
    go (yes p) = sym (first-none x _ p refl) ∙ ap (λ (f : Fault). first_of f z) (first-none x y p refl)
    go (no n) = sym (first_stops x _ refl n) ∙ first_stops x z refl n ∙ ap (λ (f : Fault). first_of f z) (first_stops x y refl n)

module _ {rule : FileRule} {moves : ℕ → Bool} (layered : Layered rule moves) (A : Automaton) (C : List ℕ) (R : Pairs) (q t at : ℕ) (no_k : Passes (k_fault rule A C q t (k_count_at C at) (at + 8) 0)) (no_w : Passes (w_fault A C R (w_count_at C at) (after_k C at + 2) 0)) where
  -- the sums' breaks without the cost equation
  abbrev sums_break : (move : Bool) → Fault
  sums_break move = first_of (before_break A C q t at move) (first_of (after_break A C q t at move) (target_break A C q t at))

  abbrev ks : Entries
  ks = k_entries layered A C q t

  abbrev k : (layer r : ℕ) → ℕ
  k = k_of C (k_count_at C at) (at + 8)

  abbrev w : (v u : ℕ) → ℕ
  w = w_of C (w_count_at C at) (after_k C at + 2)

  abbrev over_k : (ℕ → ℕ → ℕ → ℕ) → ℕ
  over_k = k_total A C q t at

  abbrev over_w : (ℕ → ℕ → ℕ → ℕ) → ℕ
  over_w = w_total A C q t at

  -- what k of a transition brings to v, and takes from it
  abbrev brings : (v r k : ℕ) → ℕ
  brings v r k = k * A.weight r v

  abbrev takes : (v r k : ℕ) → ℕ
  takes v r k = if_same (A.source r) v (k * A.denominator r) 0

  -- the sums over the transitions of a layer are sums over the entries
  arriving-k : (layer v : ℕ) → arriving A (k layer) v ≡ over_k (λ l r x. if_same l layer (brings v r x) 0)
  unfolding arriving k_entries
  arriving-k layer v =
      over_second ks A.transitions (λ at g. g.transition) (brings v) (λ r. omega arith) layer (k_count_at C at) (at + 8) 0 no_k

  leaving-k : (layer v : ℕ) → leaving A (k layer) v ≡ over_k (λ l r x. if_same l layer (takes v r x) 0)
  unfolding leaving k_entries
  leaving-k layer v =
      over_second ks A.transitions (λ at g. g.transition) (takes v) (λ r. either_same (λ x. x ≡ 0) (A.source r) v (omega arith) refl)
      layer (k_count_at C at) (at + 8) 0 no_k

  cost-k : (cost : ℕ → ℕ) (layer : ℕ) → cost_of_layer cost A (k layer) ≡ over_k (λ l r x. if_same l layer (cost_of_k cost A layer r x) 0)
  unfolding cost_of_layer k_entries
  cost-k cost layer =
      over_second ks A.transitions (λ at g. g.transition) (cost_of_k cost A layer) (λ r. omega arith) layer (k_count_at C at) (at + 8) 0 no_k

  -- those of all layers, and of two, together
  all-layers : (cost : ℕ → ℕ) → cost_of_layer cost A (k 0) + cost_of_layer cost A (k 1) + cost_of_layer cost A (k 2) ≡ over_k (cost_of_k cost A)
  unfolding k_entries
  all-layers cost =
      let first = added ks (λ l r x. if_same l 0 (cost_of_k cost A 0 r x) 0) (λ l r x. if_same l 1 (cost_of_k cost A 1 r x) 0) (λ l r x. if_same l 0 (cost_of_k cost A 0 r x) 0 + if_same l 1 (cost_of_k cost A 1 r x) 0) (λ at g. refl) (k_count_at C at) (at + 8) 0 no_k in
      let all = added ks (λ l r x. if_same l 0 (cost_of_k cost A 0 r x) 0 + if_same l 1 (cost_of_k cost A 1 r x) 0) (λ l r x. if_same l 2 (cost_of_k cost A 2 r x) 0) (cost_of_k cost A) (λ at g. one-layer (byte_at C at) (cost_of_k cost A 0 (two_at C (at + 1)) (four_at C (at + 3))) g.layer) (k_count_at C at) (at + 8) 0 no_k in
      ap₂ ◌+◌ (ap₂ ◌+◌ (cost-k cost 0) (cost-k cost 1) ∙ first) (cost-k cost 2) ∙ all

  leaving-first : (v : ℕ) → leaving A (k 0) v + leaving A (k 1) v ≡ over_k (before_right A v)
  unfolding before_right k_entries
  leaving-first v =
      ap₂ ◌+◌ (leaving-k 0 v) (leaving-k 1 v)
      ∙ added ks (λ l r x. if_same l 0 (takes v r x) 0) (λ l r x. if_same l 1 (takes v r x) 0) (before_right A v)
      (λ at g.
      let x = takes v (two_at C (at + 1)) (four_at C (at + 3)) in
      omega (arith, one-layer (byte_at C at) x g.layer, or-another (byte_at C at) 2 x))
      (k_count_at C at) (at + 8) 0 no_k

  arriving-last : (v : ℕ) → arriving A (k 1) v + arriving A (k 2) v ≡ over_k (after_left A v)
  unfolding after_left k_entries
  arriving-last v =
      ap₂ ◌+◌ (arriving-k 1 v) (arriving-k 2 v)
      ∙ added ks (λ l r x. if_same l 1 (brings v r x) 0) (λ l r x. if_same l 2 (brings v r x) 0) (after_left A v)
      (λ at g.
      let x = brings v (two_at C (at + 1)) (four_at C (at + 3)) in
      omega (arith, one-layer (byte_at C at) x g.layer, or-another (byte_at C at) 0 x))
      (k_count_at C at) (at + 8) 0 no_k

  -- the sums of w over one of its states
  over-targets : (v : ℕ) → over_targets A w v ≡ over_w (taken_at v)
  unfolding over_targets taken_at w_entries
  over-targets v =
      over_second (w_entries A C R) A.states (λ at g. g.to) (λ u x. x) (λ u. refl) v (w_count_at C at) (after_k C at + 2) 0 no_w

  over-sources : (d u : ℕ) → d * over_sources A w u ≡ over_w (given_at d u)
  unfolding over_sources given_at w_entries
  over-sources d u =
      sym (sum_times A.states d (λ v. w v u))
      ∙ over_second (turned (w_entries A C R)) A.states (λ at g. g.from) (λ v x. d * x) (λ v. omega arith) u (w_count_at C at) (after_k C at + 2) 0 no_w

  -- the sides that both kinds of challengers share
  first-left : (v : ℕ) → if_same v t (four_at C (at + 2)) 0 + arriving A (k 0) v ≡ first_left A C q t at v
  unfolding first_left before_left
  first-left v = ap (λ (x : ℕ). if_same v t (four_at C (at + 2)) 0 + x) (arriving-k 0 v)

  target : AreSides (target_left A C q t at) (target_right A C q t at) (at_target A (flow_at C at) q)
  unfolding target_left target_right at_target flow_at
  target = record { left = over-sources (A.denominator q); right = λ u. refl }

  -- the equations of an internal challenger without a move, whose entries are all of layer 0
  module _ (m : moves (A.action q) ≡ false) (i : A.action q ≡ 0) where
    other-layer : (layer : ℕ) → (0 ≡ layer → ⊥) → (g : ℕ → ℕ → ℕ) → over_k (λ l r x. if_same l layer (g r x) 0) ≡ 0
    unfolding k_entries
    other-layer layer n g =
        nothing ks (λ l r x. if_same {X = ℕ} l layer (g r x) 0) (λ at e. sym (not_same (g (two_at C (at + 1)) (four_at C (at + 3))) (λ o. n (sym (e.still m) ∙ o)) refl)) (k_count_at C at) (at + 8) 0 no_k

    move : AreSides (first_left A C q t at) (first_right A C q t at false) (internal_move A (flow_at C at) t)
    unfolding first_right internal_move flow_at if_true
    move =
        record {
          left = first-left;
          right = λ v.
              let none : leaving A (k 1) v ≡ 0 = leaving-k 1 v ∙ other-layer 1 (λ o. omega arith) (takes v) in
              omega (arith, none, leaving-first v, over-targets v);
        }

    no_second : (v : ℕ) → second_left A C q t at v ≡ second_right A C q t at false v
    unfolding second_left second_right after_right if_true
    no_second v =
        let one = arriving-k 1 v ∙ other-layer 1 (λ o. omega arith) (brings v) in
        let two = arriving-k 2 v ∙ other-layer 2 (λ o. omega arith) (brings v) in
        omega (arith, one, two, arriving-last v, other-layer 2 (λ o. omega arith) (takes v))

    internal : sums_break false ≡ plain_equations_fault A q t (flow_at C at)
    unfolding plain_equations_fault internal_equations_fault first_break
    internal =
        ap₂ first_of (same_first A 20 move)
        (sym (first_passes _ _ (break-none 20 (sides_of (second_left A C q t at) (second_right A C q t at false)) A.states 0 (λ u l m. record { equal = no_second u })) refl refl) ∙ same_first A 21 target)
        ∙ kind-internal A q _ _ i

    internal-cost : (cost : ℕ → ℕ) → cost_left A C q t at cost ≡ (cost_equation cost A (flow_at C at) q).left
    unfolding cost_left flow_at
    internal-cost cost =
        let one = cost-k cost 1 ∙ other-layer 1 (λ o. omega arith) (cost_of_k cost A 1) in
        let two = cost-k cost 2 ∙ other-layer 2 (λ o. omega arith) (cost_of_k cost A 2) in
        sym (omega (arith, one, two, all-layers cost, internal_cost cost A (flow_at C at) q i))

  -- those over a move
  module _ where
    before : AreSides (first_left A C q t at) (first_right A C q t at true) (before_move A (flow_at C at) t)
    unfolding first_right before_move flow_at if_true
    before =
        record {
          left = first-left;
          right = λ v. omega (arith, leaving-first v);
        }

    after : AreSides (second_left A C q t at) (second_right A C q t at true) (after_move A (flow_at C at))
    unfolding second_left second_right after_right after_move flow_at if_true
    after =
        record {
          left = arriving-last;
          right = λ v. ap₂ ◌+◌ (leaving-k 2 v) (over-targets v);
        }

    pub moved : sums_break true ≡ external_equations_fault A q t (flow_at C at)
    unfolding external_equations_fault
    moved = ap₂ first_of (same_first A 20 before) (ap₂ first_of (same_first A 20 after) (same_first A 21 target))

  -- those of an external challenger
  module _ (n : A.action q ≢ 0) where
    external : sums_break true ≡ plain_equations_fault A q t (flow_at C at)
    unfolding plain_equations_fault
    external = moved ∙ kind-external A q _ _ n

    external-cost : (cost : ℕ → ℕ) → cost_left A C q t at cost ≡ (cost_equation cost A (flow_at C at) q).left
    unfolding cost_left flow_at
    external-cost cost = sym (external_cost cost A (flow_at C at) q n ∙ all-layers cost)

  -- for either kind of challenger, where an internal one has no move
  module _ (external-moves : moves (A.action q) ≡ true → A.action q ≢ 0) (internal-stays : moves (A.action q) ≡ false → A.action q ≡ 0) where
    pub plain-decided : sums_break (moves (A.action q)) ≡ plain_equations_fault A q t (flow_at C at)
    plain-decided = go (moves (A.action q)) refl
      where
        go : (b : Bool) → moves (A.action q) ≡ b → sums_break b ≡ plain_equations_fault A q t (flow_at C at)
        go true e = external (external-moves e)
        go false e = internal e (internal-stays e)

    cost-left : (cost : ℕ → ℕ) → cost_left A C q t at cost ≡ (cost_equation cost A (flow_at C at) q).left
    cost-left cost = go (moves (A.action q)) refl
      where
        go : (b : Bool) → moves (A.action q) ≡ b → cost_left A C q t at cost ≡ (cost_equation cost A (flow_at C at) q).left
        go true e = external-cost (external-moves e) cost
        go false e = internal-cost e (internal-stays e) cost

    pub cost-decided : (cost : ℕ → ℕ) → cost_break (cost_left A C q t at cost) (cost_right A C q t at cost) ≡ cost_equation_fault cost A q (flow_at C at)
    unfolding cost_break cost_right cost_equation_fault cost_equation flow_at
    cost-decided cost = ap (λ (x : ℕ). unless_same x (cost q * four_at C (at + 2)) (fault 30) no_fault) (cost-left cost)

  -- without costs the cost equation does not break
  pub free-decided : cost_break (cost_left A C q t at free) (cost_right A C q t at free) ≡ no_fault
  unfolding cost_break cost_left cost_right k_entries
  free-decided = sym (same _ (nothing ks (cost_of_k free A) (λ at e. omega arith) (k_count_at C at) (at + 8) 0 no_k ∙ omega arith) refl)

  pub free-targets : first_of (target_break A C q t at) (cost_break (cost_left A C q t at free) (cost_right A C q t at free)) ≡ target_break A C q t at
  free-targets = ap (first_of (target_break A C q t at)) free-decided ∙ break-alone A 21 _ (omega arith)

-- a k that the rule does not allow is 0
pub absent-k : (rule : FileRule) (A : Automaton) (C : List ℕ) (q t layer r : ℕ) → (rule.in_question A q t layer r ≡ true → ⊥) → (left at lowest : ℕ) → Passes (k_fault rule A C q t left at lowest) → k_of C left at layer r ≡ 0
unfolding k_of
absent-k rule A C q t layer r n zero at lowest e = refl
absent-k rule A C q t layer r n (suc left) at lowest e =
    let p = passed-k rule A C q t left at lowest e in
    pair-passed (byte_at C at) (two_at C (at + 1)) layer r (four_at C (at + 3)) (k_of C left (at + 7) layer r)
    (λ x y. n (ap₂ (λ (l i : ℕ). rule.in_question A q t l i) (sym x) (sym y) ∙ p.allowed))
    ∙ absent-k rule A C q t layer r n left (at + 7) _ p.rest
