-- Laws of merged transitions that are the same (document 02, K3): sameness is an equivalence, each is the same as one that is kept, and no two
-- that are kept are the same.
use Rattle.std.specs.Prelude.{ℕ, ◌*◌, ◌<◌, ◌≡◌, ◌⊎◌, Bool}
use Rattle.std.proofs.Math.Path.{refl}
use Rattle.std.proofs.Common.{sym, ◌∙◌, ap, arith}
use Rattle.std.proofs.Math.Logic.{inl, inr}
use Rattle.std.proofs.Math.Bool.{true, false, cond}
use mathlib.Core.List.{List, [], ◌∷◌, ◌++◌}
use borrow.Author.Tests.{eqb-true, eq-eqb}
use Rattle.std.proofs.Math.Nat.{eq_of_mul-eq-mul_left}
use Rattle.bisimulation.specs.definitions.Choice.{if_true}
use Rattle.bisimulation.proofs.argument.ChoiceLaws.{is_true, is_false, false-not, both_true, true-both, all-below, below_all}
use Rattle.rules.specs.definitions.Model.{Transition, weight_of}
use Rattle.rules.specs.definitions.SoundModel.{Each}
use Rattle.rules.proofs.argument.SoundModelLaws.{each_map}
use Rattle.quotient.proofs.argument.Lists.{Some, some-map, some-second, Pairwise}
use Rattle.quotient.specs.definitions.Quotient.{same_transition, is_among, distinct}

-- sameness as a proposition
pub record Same (k : ℕ) (t u : Transition) : Type 0 where
  pub action : t.action ≡ u.action
  pub probability : (c : ℕ) → c < k → weight_of t.entries c * u.denominator ≡ weight_of u.entries c * t.denominator

abbrev pub Positive : Transition → Type 0
Positive t = 0 < t.denominator

module _ (k : ℕ) where
  pub same-tells : (t u : Transition) → same_transition k t u ≡ true → Same k t u
  unfolding same_transition
  same-tells t u e =
      let h = both_true _ _ e in
      record { action = eqb-true _ _ h.0; probability = λ c l. eqb-true _ _ (all-below k _ h.1 c l) }

  pub tells-same : {t u : Transition} → Same k t u → same_transition k t u ≡ true
  unfolding same_transition
  tells-same s = true-both (eq-eqb _ _ s.action) (below_all k _ (λ c l. eq-eqb _ _ (s.probability c l)))

  -- an equivalence
  pub same-itself : (t : Transition) → Same k t t
  same-itself t = record { action = refl; probability = λ c l. refl }

  pub same-turned : {t u : Transition} → Same k t u → Same k u t
  same-turned s = record { action = sym s.action; probability = λ c l. sym (s.probability c l) }

  pub same-through : {t u v : Transition} → Positive u → Same k t u → Same k u v → Same k t v
  same-through {t} {u} {v} positive a b =
      record {
        action = a.action ∙ b.action;
        probability = λ c l.
            eq_of_mul-eq-mul_left u.denominator positive _ _
            (omega (arith, ap (λ (z : ℕ). v.denominator * z) (a.probability c l), ap (λ (z : ℕ). t.denominator * z) (b.probability c l)));
      }

  -- one that is among others is the same as some of them
  pub among-some : (t : Transition) (us : List Transition) → is_among k t us ≡ true → Some (Same k t) us
  unfolding is_among if_true Some
  among-some t [] e = absurd (false-not e)
  among-some t (u ∷ us) e = go (same_transition k t u) refl e (among-some t us)
    where
      go : (b : Bool) → same_transition k t u ≡ b → cond b true (is_among k t us) ≡ true → (is_among k t us ≡ true → Some (Same k t) us) → Same k t u ⊎ Some (Same k t) us
      go true q e ih = inl (same-tells t u q)
      go false q e ih = inr (ih e)

  -- each is the same as one before all of them, or as one that is kept
  abbrev Covered : (before kept : List Transition) → Transition → Type 0
  Covered before kept t = Some (Same k t) before ⊎ Some (Same k t) kept

  covered : (before ts : List Transition) → Each Positive ts → Each (Covered before (distinct k before ts)) ts
  unfolding distinct Each
  covered before [] h = tt
  covered before (t ∷ ts) h = (here (is_among k t before) refl, each_map _ _ later ts (covered (t ∷ before) ts h.1))
    where
      rest : List Transition
      rest = distinct k (t ∷ before) ts

      here : (b : Bool) → is_among k t before ≡ b → Covered before (if_true b [] (t ∷ []) ++ rest) t
      here true e = inl (among-some t before e)
      here false e = unfold if_true Some in inr (inl (same-itself t))

      through : (u : Transition) → Same k u t → (kept : List Transition) → Covered before kept t → Covered before kept u
      through u s kept (inl a) = inl (some-map _ _ (λ x p. same-through h.0 s p) before a)
      through u s kept (inr a) = inr (some-map _ _ (λ x p. same-through h.0 s p) kept a)

      later : (u : Transition) → Covered (t ∷ before) rest u → Covered before (if_true (is_among k t before) [] (t ∷ []) ++ rest) u
      later u (inr a) = inr (some-second _ (if_true (is_among k t before) [] (t ∷ [])) rest a)
      later u (inl a) = among (unfold Some in a)
        where
          among : (Same k u t ⊎ Some (Same k u) before) → Covered before (if_true (is_among k t before) [] (t ∷ []) ++ rest) u
          among (inl s) = through u s _ (here (is_among k t before) refl)
          among (inr b) = inl b

  -- each is the same as one that is kept
  pub each-covered : (ts : List Transition) → Each Positive ts → Each (λ (t : Transition). Some (Same k t) (distinct k [] ts)) ts
  each-covered ts h = each_map _ _ (λ t c. kept t c) ts (covered [] ts h)
    where
      kept : (t : Transition) → Covered [] (distinct k [] ts) t → Some (Same k t) (distinct k [] ts)
      kept t (inl a) = absurd (unfold Some in a)
      kept t (inr a) = a

  -- one that is not among others is the same as none of them
  none-among : (t : Transition) (us : List Transition) → is_among k t us ≡ false → Each (λ (u : Transition). Same k t u → ⊥) us
  unfolding is_among if_true Each
  none-among t [] e = tt
  none-among t (u ∷ us) e = go (same_transition k t u) refl e (none-among t us)
    where
      go : (b : Bool) → same_transition k t u ≡ b → cond b true (is_among k t us) ≡ false → (is_among k t us ≡ false → Each (λ (u : Transition). Same k t u → ⊥) us) → (Same k t u → ⊥) × Each (λ (u : Transition). Same k t u → ⊥) us
      go true q e ih = absurd (false-not (sym e))
      go false q e ih = (λ s. false-not (sym q ∙ tells-same s), ih e)

  -- what is kept is the same as none before, and as no other that is kept
  abbrev Unlike : Transition → Transition → Type 0
  Unlike t u = Same k t u → ⊥

  kept-apart : (before ts : List Transition) → Each (λ (t : Transition). Each (Unlike t) before) (distinct k before ts) × Pairwise Unlike (distinct k before ts)
  unfolding distinct Each Pairwise
  kept-apart before [] = (tt, tt)
  kept-apart before (t ∷ ts) = go (is_among k t before) refl (kept-apart (t ∷ before) ts)
    where
      rest : List Transition
      rest = distinct k (t ∷ before) ts

      go : (b : Bool) → is_among k t before ≡ b → Each (λ (u : Transition). Each (Unlike u) (t ∷ before)) rest × Pairwise Unlike rest → Each (λ (u : Transition). Each (Unlike u) before) (if_true b [] (t ∷ []) ++ rest) × Pairwise Unlike (if_true b [] (t ∷ []) ++ rest)
      go true e ih = unfold if_true Each in (each_map _ _ (λ u h. h.1) rest ih.0, ih.1)
      go false e ih = unfold if_true Each Pairwise in (
        (none-among t before e, each_map _ _ (λ u h. h.1) rest ih.0),
        (each_map _ _ (λ u h s. h.0 (same-turned s)) rest ih.0, ih.1),
      )

  pub distinct_apart : (ts : List Transition) → Pairwise Unlike (distinct k [] ts)
  distinct_apart ts = (kept-apart [] ts).1
