-- The laws of movements: amounts that are equal, scaled, or stay; a transition done once; what is coupled.
use Prim.Native.Nat.{ℕ, suc, ◌*◌, ◌≤◌, ◌<◌}
use Rattle.std.specs.Prelude.{◌≡◌, refl, ◌⊎◌, true}
use Rattle.std.proofs.Math.Path.{sym, subst}
use Rattle.std.proofs.Common.{◌∙◌, ap, ap₂, subst₂, inl, inr, eq-zero-or-pos, mul_comm, mul-one, arith}
use Rattle.std.proofs.Math.Decide.{ℕ_discrete, dec_lt}
use Rattle.bisimulation.specs.definitions.Choice.{if_less, if_same}
use Rattle.bisimulation.proofs.argument.ChoiceLaws.{less, not_less, same, not_same, turned, times_same, either_same}
use Rattle.bisimulation.specs.definitions.Sum.{sum}
use Rattle.bisimulation.proofs.argument.SumLaws.{sum_cong, sum_zero, sum_times, sum_times_right}
use Rattle.bisimulation.proofs.argument.Once.{once, none, once_used, arriving_none, leaving_none, arriving_once, leaving_once}
use Rattle.bisimulation.specs.definitions.Automaton.{Automaton}
use Rattle.bisimulation.specs.definitions.StepRule.{arriving, leaving}
use Rattle.bisimulation.proofs.argument.Parts.{nothing}
use Rattle.bisimulation.proofs.argument.Moves.{Layer, Movement, start, Uses, Through, Moves, Couples, DoesOnce}

-- nothing is coupled with no weights
pub nothing_couples : {W : ℕ → ℕ → Type 0} {n m d D : ℕ} {p : ℕ → ℕ} → ((u : ℕ) → u < m → p u ≡ 0) → Couples W n m d D p nothing
unfolding nothing
nothing_couples {n = n} {d = d} {D = D} h =
    record {
      related = λ v u i l z. absurd (omega arith);
      target = λ u l. omega (arith, ap (λ (z : ℕ). d * z) (sum_zero n (λ v. 0) (λ v i. refl)), ap (λ (z : ℕ). z * D) (h u l));
    }

-- the same weights over the same denominator, for a wider relation
pub couples_cong : {W W' : ℕ → ℕ → Type 0} {n m d d' D : ℕ} {p p' : ℕ → ℕ} {w : ℕ → ℕ → ℕ} → ((v u : ℕ) → v < n → u < m → W v u → W' v u) → d' ≡ d → ((u : ℕ) → u < m → p' u ≡ p u) → Couples W n m d D p w → Couples W' n m d' D p' w
couples_cong {n = n} {D = D} {w = w} wider e f c =
    record {
      related = λ v u i l z. wider v u i l (c.related v u i l z);
      target = λ u l. ap (λ (z : ℕ). z * sum n (λ v. w v u)) e ∙ c.target u l ∙ ap (λ (z : ℕ). z * D) (sym (f u l));
    }

-- amounts that are equal at every state, and the same movement
module _ {A : Automaton} {x y x' y' : ℕ → ℕ} (from : (v : ℕ) → v < A.states → x v ≡ x' v) (to : (v : ℕ) → v < A.states → y v ≡ y' v) where
  pub through_cong : {l : Layer} {k : ℕ → ℕ} → Through A l k x y → Through A l k x' y'
  through_cong t =
      record {
        uses = t.uses;
        balance = λ v i. omega (arith, from v i, to v i, t.balance v i);
        all = λ e v i. t.all e v i ∙ from v i;
      }

  pub moves_cong : {m m' : Movement} {k : ℕ → ℕ → ℕ} → m ≡ m' → Moves A m k x y → Moves A m' k x' y'
  moves_cong {k = k} e m =
      subst (λ (n : Movement). Moves A n k x' y') e
      (record { between = m.between; starts = λ v i. m.starts v i ∙ from v i; through = m.through; ends = λ v i. m.ends v i ∙ to v i })

-- nothing moves
module _ (A : Automaton) where
  pub stays : (l : Layer) (x y : ℕ → ℕ) → ((v : ℕ) → v < A.states → x v ≡ y v) → (l.step ≡ true → (v : ℕ) → v < A.states → x v ≡ 0) → Through A l none x y
  unfolding none
  stays l x y e nowhere =
      record {
        uses = λ r i u. absurd (omega arith);
        balance = λ v i. omega (arith, e v i, arriving_none A v, leaving_none A v);
        all = λ s v i. leaving_none A v ∙ sym (nowhere s v i);
      }

  pub still : (m : Movement) → Moves A m (λ i. none) none none
  unfolding none
  still m =
      record {
        between = λ i. none;
        starts = λ v l. refl;
        through = λ i l. stays (m.layer i) none none (λ v j. refl) (λ s v j. refl);
        ends = λ v l. refl;
      }

-- where a multiple of x is used, so is x
pub used_times : (x y : ℕ) → 0 < x * y → 0 < x
used_times x y l = go (eq-zero-or-pos x)
  where
    go : (x ≡ 0) ⊎ (0 < x) → 0 < x
    go (inl e) = absurd (omega (arith, ap (λ (z : ℕ). z * y) e))
    go (inr h) = h

-- h of B is c times k of A: in which actions it uses, in what arrives and in what leaves
pub record Scaled (A B : Automaton) (c : ℕ) (k h : ℕ → ℕ) : Type 1 where
  pub uses : (allows : (source action : ℕ) → Type 0) → Uses A allows k → Uses B allows h
  pub arrives : (v : ℕ) → v < A.states → arriving B h v ≡ c * arriving A k v
  pub leaves : (v : ℕ) → v < A.states → leaving B h v ≡ c * leaving A k v

-- it is so where its products with d and p(v) are, for transitions with the same sources and actions
pub scaled : {A B : Automaton} {c : ℕ} {k h : ℕ → ℕ} → A.transitions ≡ B.transitions → ((r : ℕ) → r < A.transitions → A.source r ≡ B.source r) → ((r : ℕ) → r < A.transitions → A.action r ≡ B.action r) → ((r : ℕ) → 0 < h r → 0 < k r) → ((r : ℕ) → r < B.transitions → h r * B.denominator r ≡ c * (k r * A.denominator r)) → ((r v : ℕ) → r < B.transitions → v < A.states → h r * B.weight r v ≡ c * (k r * A.weight r v)) → Scaled A B c k h
unfolding arriving leaving
scaled {A} {B} {c} {k} {h} e source action used denominator weight =
    record {
      uses = λ allows u r l z. subst₂ allows (source r (omega arith)) (action r (omega arith)) (u r (omega arith) (used r z));
      arrives = λ v j. all _ _ (λ r l. weight r v l j);
      leaves = λ v j. all _ _ (λ r l. left r v l);
    }
  where
    all : (f g : ℕ → ℕ) → ((r : ℕ) → r < B.transitions → f r ≡ c * g r) → sum B.transitions f ≡ c * sum A.transitions g
    all f g row = sum_cong B.transitions f (λ r. c * g r) row ∙ sum_times B.transitions c g ∙ ap (λ (n : ℕ). c * sum n g) (sym e)

    left : (r v : ℕ) → r < B.transitions → if_same (B.source r) v (h r * B.denominator r) 0 ≡ c * if_same (A.source r) v (k r * A.denominator r) 0
    left r v l =
        ap₂ (λ (s z : ℕ). if_same s v z 0) (sym (source r (omega arith))) (denominator r l ∙ mul_comm c _)
        ∙ sym (times_same (A.source r) v (k r * A.denominator r) c)
        ∙ mul_comm _ c

pub moves_scaled : {A B : Automaton} {m : Movement} {k h : ℕ → ℕ → ℕ} {x y : ℕ → ℕ} (c : ℕ) → B.states ≡ A.states → ((i : ℕ) → Scaled A B c (k i) (h i)) → Moves A m k x y → Moves B m h (λ v. c * x v) (λ v. c * y v)
moves_scaled {A} {m = m} c e s o =
    record {
      between = λ i v. c * o.between i v;
      starts = λ v l. ap (λ (z : ℕ). c * z) (o.starts v (omega arith));
      through = λ i l. let t = o.through i l in record {
        uses = (s i).uses (m.layer i).allows t.uses;
        balance = λ v j. let b : v < A.states = omega arith in omega (arith, (s i).arrives v b, (s i).leaves v b, ap (λ (z : ℕ). c * z) (t.balance v b));
        all = λ p v j. let b : v < A.states = omega arith in (s i).leaves v b ∙ ap (λ (z : ℕ). c * z) (t.all p v b);
      };
      ends = λ v l. ap (λ (z : ℕ). c * z) (o.ends v (omega arith));
    }

-- every number times c
pub moves_times : (A : Automaton) (c : ℕ) {m : Movement} {k : ℕ → ℕ → ℕ} {x y : ℕ → ℕ} → Moves A m k x y → Moves A m (λ i r. c * k i r) (λ v. c * x v) (λ v. c * y v)
moves_times A c {k = k} =
    moves_scaled c refl (λ i. scaled refl (λ r l. refl) (λ r l. refl) (λ r u. used_times (k i r) c (omega arith)) (λ r l. omega arith) (λ r v l j. omega arith))

pub start_times : (c t D v : ℕ) → c * start t D v ≡ start t (c * D) v
unfolding start
start_times c t D v = mul_comm c _ ∙ times_same v t D c ∙ ap (λ (z : ℕ). if_same v t z 0) (mul_comm D c)

-- transitions of t alone: all of it leaves t
pub leaving_own : (A : Automaton) (t : ℕ) (k : ℕ → ℕ) → ((r : ℕ) → r < A.transitions → 0 < k r → A.source r ≡ t) → (v : ℕ) → leaving A k v ≡ start t (sum A.transitions (λ r. k r * A.denominator r)) v
unfolding leaving start
leaving_own A t k own v =
    sum_cong A.transitions _ _ (λ r l. term r l (eq-zero-or-pos (k r)))
    ∙ sum_times_right A.transitions (start t 1 v) (λ r. k r * A.denominator r)
    ∙ times (sum A.transitions (λ r. k r * A.denominator r))
  where
    times : (D : ℕ) → D * start t 1 v ≡ start t D v
    times D = start_times D t 1 v ∙ ap (λ (z : ℕ). start t z v) (mul-one D)

    term : (r : ℕ) → r < A.transitions → (k r ≡ 0) ⊎ (0 < k r) → if_same (A.source r) v (k r * A.denominator r) 0 ≡ k r * A.denominator r * start t 1 v
    term r l (inl e) =
        either_same (λ z. z ≡ 0) (A.source r) v (omega (arith, ap (λ (z : ℕ). z * A.denominator r) e)) refl
        ∙ sym (ap (λ (z : ℕ). z * A.denominator r * start t 1 v) e ∙ omega arith)
    term r l (inr u) =
        ap (λ (s : ℕ). if_same s v (k r * A.denominator r) 0) (own r l u) ∙ turned t v (k r * A.denominator r) 0 ∙ sym (times (k r * A.denominator r))

-- the transition q once, in one layer
unfoldable pub own_layers : (q layer : ℕ) → ℕ → ℕ → ℕ
own_layers q layer i = if_same i layer (once q) none

-- it takes its denominator at its source to its weights
module _ (A : Automaton) (q : ℕ) (l : q < A.transitions) where
  through_once : (y : Layer) → y.allows (A.source q) (A.action q) → Through A y (once q) (start (A.source q) (A.denominator q)) (A.weight q)
  unfolding start
  through_once y may =
      let leaves : (v : ℕ) → leaving A (once q) v ≡ start (A.source q) (A.denominator q) v = λ v. leaving_once A q l v ∙ turned (A.source q) v (A.denominator q) 0 in
      record {
        uses = λ r i u. subst (λ (z : ℕ). y.allows (A.source z) (A.action z)) (sym (once_used q r u)) may;
        balance = λ v i. omega (arith, leaves v, arriving_once A q l v);
        all = λ s v i. leaves v;
      }

  pub own_moves : {m : Movement} (does : DoesOnce m (A.source q) (A.action q)) → Moves A m (own_layers q does.layer) (start (A.source q) (A.denominator q)) (A.weight q)
  unfolding own_layers
  own_moves {m} does =
      record {
        between = between;
        starts = λ v i. early 0 v (omega arith);
        through = λ i j. at i j (ℕ_discrete i does.layer);
        ends = λ v i. late m.count v does.below;
      }
    where
      between : ℕ → ℕ → ℕ
      between i v = if_less does.layer i (A.weight q v) (start (A.source q) (A.denominator q) v)

      early : (i v : ℕ) → i ≤ does.layer → between i v ≡ start (A.source q) (A.denominator q) v
      early i v h = sym (not_less _ h refl)

      late : (i v : ℕ) → does.layer < i → between i v ≡ A.weight q v
      late i v h = sym (less _ h refl)

      unmoved : (i v : ℕ) → (i ≡ does.layer → ⊥) → Dec (does.layer < i) → between i v ≡ between (suc i) v
      unmoved i v n (yes h) = late i v h ∙ sym (late (suc i) v (omega arith))
      unmoved i v n (no h) = early i v (omega arith) ∙ sym (early (suc i) v (omega arith))

      at : (i : ℕ) → i < m.count → Dec (i ≡ does.layer) → Through A (m.layer i) (if_same i does.layer (once q) none) (between i) (between (suc i))
      at i j (yes e) =
          subst (λ (k : ℕ → ℕ). Through A (m.layer i) k (between i) (between (suc i))) (same none e refl)
          (through_cong (λ v b. sym (early i v (omega arith))) (λ v b. sym (late (suc i) v (omega arith))) (through_once (m.layer i) (subst (λ (z : ℕ). (m.layer z).allows (A.source q) (A.action q)) (sym e) does.allows)))
      at i j (no n) =
          subst (λ (k : ℕ → ℕ). Through A (m.layer i) k (between i) (between (suc i))) (not_same (once q) n refl)
          (stays A (m.layer i) (between i) (between (suc i)) (λ v b. unmoved i v n (dec_lt does.layer i)) (λ s. absurd (does.others i j n s)))
