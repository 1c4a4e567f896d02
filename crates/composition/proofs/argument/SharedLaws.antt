-- The test of a shared action decides whether it is shared.
use Rattle.std.specs.Prelude.{ℕ, ◌≡◌, refl, Bool}
use Rattle.std.proofs.Math.Path.{sym}
use Rattle.std.proofs.Common.{◌∙◌, arith}
use Rattle.std.proofs.Math.Bool.{true, false}
use Rattle.bisimulation.proofs.argument.ChoiceLaws.{less, kept_less, false-not}
use Rattle.bisimulation.specs.definitions.Automaton.{Automaton}
use Rattle.bisimulation.specs.definitions.Composed.{Shared}
use Rattle.composition.specs.definitions.Composition.{shared_below, is_shared}

module _ (A B : Automaton) where
  pub shared-test : (a : ℕ) → Shared A B a → is_shared A B a ≡ true
  unfolding is_shared shared_below
  shared-test a h = sym (less _ (omega (arith, h.external)) (less _ h.left (less _ h.right refl)))

  pub test-shared : (a : ℕ) → is_shared A B a ≡ true → Shared A B a
  unfolding is_shared shared_below
  test-shared a e =
      let p = kept_less _ false 0 a no (sym e) in
      let q = kept_less _ false a A.actions no p.1 in
      record { external = p.0; left = q.0; right = (kept_less true false a B.actions no q.1).0 }
    where
      no : true ≡ false → ⊥
      no e = false-not (sym e)

  pub alone-test : (a : ℕ) → (Shared A B a → ⊥) → is_shared A B a ≡ false
  alone-test a alone = go (is_shared A B a) refl
    where
      go : (t : Bool) → is_shared A B a ≡ t → t ≡ false
      go true e = absurd (alone (test-shared a e))
      go false e = refl

  pub test-alone : (a : ℕ) → is_shared A B a ≡ false → Shared A B a → ⊥
  test-alone a e h = false-not (sym e ∙ shared-test a h)
