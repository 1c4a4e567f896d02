-- Document 01's step rule says what its movements say, and they can do the challenger once.
use Prim.Native.Nat.{ℕ, zero, suc, ◌<◌}
use Rattle.std.specs.Prelude.{◌≡◌, ◌≢◌, true}
use Rattle.std.proofs.Math.Path.{refl}
use Rattle.std.proofs.Common.{sym, subst, arith}
use Rattle.std.proofs.Math.Decide.{ℕ_discrete}
use Rattle.bisimulation.specs.definitions.Choice.{if_less, if_same}
use Rattle.bisimulation.proofs.argument.ChoiceLaws.{same, not_same, false-not}
use Rattle.bisimulation.specs.definitions.Automaton.{Automaton}
use Rattle.bisimulation.specs.definitions.StepRule.{Flow, arriving, leaving, over_targets, over_sources, before_move, after_move, internal_move, at_target, MetExternal, MetInternal, Met}
use Rattle.bisimulation.proofs.argument.Moves.{Movement, internal_movement, external_movement, plain_movement, start, Through, MetBy, Nothing, ByMovement, DoesOnce, OfAnySource}
use Rattle.bisimulation.proofs.argument.OneLayer.{moves_one, through_one, once_in_one}

-- the movement by the challenger's kind
by_internal : {a : ℕ} → a ≡ 0 → internal_movement ≡ plain_movement a
unfolding plain_movement
by_internal e = same _ e refl

by_external : {a : ℕ} → a ≢ 0 → external_movement a ≡ plain_movement a
unfolding plain_movement
by_external n = not_same _ n refl

module _ (P : Movement → Type 0) {a : ℕ} where
  pub either_movement : (a ≡ 0 → P internal_movement) → (a ≢ 0 → P (external_movement a)) → P (plain_movement a)
  either_movement internal external = go (ℕ_discrete a 0)
    where
      go : Dec (a ≡ 0) → P (plain_movement a)
      go (yes e) = subst P (by_internal e) (internal e)
      go (no n) = subst P (by_external n) (external n)

  pub internal_of : P (plain_movement a) → a ≡ 0 → P internal_movement
  internal_of p e = subst P (sym (by_internal e)) p

  pub external_of : P (plain_movement a) → a ≢ 0 → P (external_movement a)
  external_of p n = subst P (sym (by_external n)) p

-- what holds of each of three layers
pub three_layers : (P : ℕ → Type 0) → P 0 → P 1 → P 2 → (i : ℕ) → i < 3 → P i
three_layers P a b c zero l = a
three_layers P a b c (suc zero) l = b
three_layers P a b c (suc (suc zero)) l = c
three_layers P a b c (suc (suc (suc i))) l = absurd (omega arith)

module _ (A : Automaton) (More : Flow → Type 0) (W : ℕ → ℕ → Type 0) (q t : ℕ) where
  pub internal_by : (o : MetInternal A W q t) → More o.flow → MetBy A internal_movement More W q t
  unfolding start internal_move at_target over_sources
  internal_by o more =
      record {
        flow = o.flow;
        at_least_one = o.at_least_one;
        moves = moves_one (record { uses = o.layer0; balance = λ v l. (o.move v l).equal; all = λ s. absurd (false-not s) });
        couples = record { related = o.related; target = λ u l. (o.target u l).equal };
        more = more;
      }

  pub external_by : (o : MetExternal A W q t) → More o.flow → MetBy A (external_movement (A.action q)) More W q t
  unfolding if_less if_same start before_move after_move at_target over_sources
  external_by o more =
      let f = o.flow in
      let between : ℕ → ℕ → ℕ = λ i. if_less i 1 (start t f.D) (if_less i 2 (leaving A (f.k 1)) (if_less i 3 (arriving A (f.k 1)) (over_targets A f.w))) in
      record {
        flow = f;
        at_least_one = o.at_least_one;
        moves = record {
          between = between;
          starts = λ v l. refl;
          through =
              three_layers (λ i. Through A ((external_movement (A.action q)).layer i) (f.k i) (between i) (between (suc i)))
              (record { uses = o.layer0; balance = λ v l. (o.before v l).equal; all = λ s. absurd (false-not s) })
              (record { uses = o.layer1; balance = λ v l. refl; all = λ s v l. refl })
              (record { uses = o.layer2; balance = λ v l. (o.after v l).equal; all = λ s. absurd (false-not s) });
          ends = λ v l. refl;
        };
        couples = record { related = o.related; target = λ u l. (o.target u l).equal };
        more = more;
      }

  unfoldable pub internal_from : MetBy A internal_movement More W q t → MetInternal A W q t
  unfolding start internal_move at_target over_sources
  internal_from m =
      let o = through_one m.moves in
      record {
        flow = m.flow;
        at_least_one = m.at_least_one;
        layer0 = o.uses;
        related = m.couples.related;
        move = λ v l. record { equal = o.balance v l };
        target = λ u l. record { equal = m.couples.target u l };
      }

  unfoldable pub external_from : MetBy A (external_movement (A.action q)) More W q t → MetExternal A W q t
  unfolding if_same start before_move after_move at_target over_sources
  external_from m =
      let o = m.moves in
      let step = o.through 1 (omega arith) in
      record {
        flow = m.flow;
        at_least_one = m.at_least_one;
        layer0 = (o.through 0 (omega arith)).uses;
        layer1 = step.uses;
        layer2 = (o.through 2 (omega arith)).uses;
        related = m.couples.related;
        before = λ v l. record { equal = omega (arith, o.starts v l, (o.through 0 (omega arith)).balance v l, step.all refl v l) };
        after = λ v l. record { equal = omega (arith, step.balance v l, step.all refl v l, (o.through 2 (omega arith)).balance v l, o.ends v l) };
        target = λ u l. record { equal = m.couples.target u l };
      }

pub plain_by : ByMovement Met (λ a t. plain_movement a) Nothing
plain_by =
    record {
      to = λ A W q t m. either_movement (λ o. MetBy A o (Nothing A q t) W q t) (λ e. internal_by A _ W q t (m.internal e) tt) (λ n. external_by A _ W q t (m.external n) tt);
      from = λ A W q t m. record {
        internal = λ e. internal_from A _ W q t (internal_of (λ o. MetBy A o (Nothing A q t) W q t) m e);
        external = λ n. external_from A _ W q t (external_of (λ o. MetBy A o (Nothing A q t) W q t) m n);
      };
    }

-- the challenger is done in layer 0 if it is internal, else in layer 1
pub plain_once : (a s : ℕ) → DoesOnce (plain_movement a) s a
unfolding if_same
plain_once a s =
    either_movement (λ m. DoesOnce m s a)
    once_in_one
    (λ n. record {
      layer = 1;
      below = omega arith;
      allows = refl;
      others = three_layers (λ j. (j ≡ 1 → ⊥) → ((external_movement a).layer j).step ≡ true → ⊥) (λ o s. false-not s) (λ o s. o refl) (λ o s. false-not s);
    })

pub plain_any_source : (a : ℕ) → OfAnySource (plain_movement a)
unfolding if_same
plain_any_source a =
    either_movement OfAnySource (λ e i l s v b h. h)
    (λ n. three_layers (λ i. (s v b : ℕ) → ((external_movement a).layer i).allows s b → ((external_movement a).layer i).allows v b) (λ s v b h. h) (λ s v b h. h) (λ s v b h. h))
