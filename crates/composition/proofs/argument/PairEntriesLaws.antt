-- The entries of two transitions done together: how many they are, and the product of the weights.
use Rattle.std.specs.Prelude.{ℕ, suc, ◌+◌, ◌*◌, ◌≤◌, ◌<◌, ◌≡◌, length}
use Rattle.std.proofs.Math.Path.{refl, sym, ap}
use Rattle.std.proofs.Common.{◌∙◌, length-append, mul-le-mul_right}
use mathlib.Core.List.{List, [], ◌∷◌, ◌++◌, map}
use Rattle.std.proofs.lemmas.List.{length-map}
use Rattle.std.proofs.Math.Decide.{ℕ_discrete, dec_lt}
use native.Mathlib.Omega.{arith}
use Rattle.bisimulation.specs.definitions.Choice.{if_same}
use Rattle.bisimulation.proofs.argument.ChoiceLaws.{same, not_same}
use Rattle.bisimulation.specs.definitions.Composed.{state_at}
use Rattle.rules.specs.definitions.Model.{Entry, weight_of}
use Rattle.rules.specs.definitions.SoundModel.{Each}
use Rattle.composition.specs.definitions.Composition.{pair_entry, pair_entries}

pub pair-length : (n : ℕ) (es fs : List Entry) → length (pair_entries n es fs) ≡ length es * length fs
unfolding pair_entries
pair-length n [] fs = omega arith
pair-length n (e ∷ es) fs =
    omega (arith, length-append (map (pair_entry n e) fs) (pair_entries n es fs), length-map fs (pair_entry n e), pair-length n es fs)

-- a pair of states has a number of its own
pub state-left : (n s e t f : ℕ) → e < n → f < n → state_at n s e ≡ state_at n t f → s ≡ t
unfolding state_at
state-left n s e t f h k q = go (dec_lt s t) (dec_lt t s)
  where
    go : Dec (s < t) → Dec (t < s) → s ≡ t
    go (yes l) _ = let le : suc s * n ≤ t * n = mul-le-mul_right n l in absurd (omega arith)
    go (no _) (yes l) = let le : suc t * n ≤ s * n = mul-le-mul_right n l in absurd (omega arith)
    go (no i) (no j) = omega arith

pub state-right : (n s e t f : ℕ) → e < n → f < n → state_at n s e ≡ state_at n t f → e ≡ f
unfolding state_at
state-right n s e t f h k q = omega (arith, q, ap (λ (i : ℕ). i * n) (state-left n s e t f h k q))

module _ (n v x : ℕ) (below : x < n) where
  -- the entry of another left state leads elsewhere
  other-weight : (e : Entry) → (e.state ≡ v → ⊥) → (fs : List Entry) → Each (λ (f : Entry). f.state < n) fs → (rest : List Entry) → weight_of (map (pair_entry n e) fs ++ rest) (state_at n v x) ≡ weight_of rest (state_at n v x)
  unfolding weight_of Each pair_entry
  other-weight e differs [] h rest = refl
  other-weight e differs (f ∷ fs) h rest =
      sym (not_same (e.weight * f.weight) (λ q. differs (state-left n e.state f.state v x h.0 below q)) refl)
      ∙ other-weight e differs fs h.1 rest

  -- that of this one leads to x as the right does, and what follows adds nothing where that is nowhere
  this-weight : (e : Entry) → e.state ≡ v → (fs : List Entry) → Each (λ (f : Entry). f.state < n) fs → (rest : List Entry) → (weight_of fs x ≡ 0 → weight_of rest (state_at n v x) ≡ 0) → weight_of (map (pair_entry n e) fs ++ rest) (state_at n v x) ≡ e.weight * weight_of fs x
  unfolding weight_of Each pair_entry
  this-weight e is [] h rest none = omega (arith, none refl)
  this-weight e is (f ∷ fs) h rest none = go (this-weight e is fs h.1 rest) (ℕ_discrete f.state x)
    where
      go : ((weight_of fs x ≡ 0 → weight_of rest (state_at n v x) ≡ 0) → weight_of (map (pair_entry n e) fs ++ rest) (state_at n v x) ≡ e.weight * weight_of fs x) → Dec (f.state ≡ x) → if_same (state_at n e.state f.state) (state_at n v x) (e.weight * f.weight) (weight_of (map (pair_entry n e) fs ++ rest) (state_at n v x)) ≡ e.weight * if_same f.state x f.weight (weight_of fs x)
      go others (yes q) =
          sym (same _ (ap (λ (i : ℕ). state_at n i f.state) is ∙ ap (state_at n v) q) refl) ∙ ap (λ (w : ℕ). e.weight * w) (same _ q refl)
      go others (no q) =
          let past : weight_of fs x ≡ if_same f.state x f.weight (weight_of fs x) = not_same f.weight q refl in
          sym (not_same _ (λ p. q (state-right n e.state f.state v x h.0 below p)) refl)
          ∙ others (λ z. none (sym past ∙ z)) ∙ ap (λ (w : ℕ). e.weight * w) past

  pub pair-weight : (es fs : List Entry) → Each (λ (f : Entry). f.state < n) fs → weight_of (pair_entries n es fs) (state_at n v x) ≡ weight_of es v * weight_of fs x
  unfolding pair_entries weight_of
  pair-weight [] fs h = omega arith
  pair-weight (e ∷ es) fs h = go (pair-weight es fs h) (ℕ_discrete e.state v)
    where
      go : weight_of (pair_entries n es fs) (state_at n v x) ≡ weight_of es v * weight_of fs x → Dec (e.state ≡ v) → weight_of (map (pair_entry n e) fs ++ pair_entries n es fs) (state_at n v x) ≡ if_same e.state v e.weight (weight_of es v) * weight_of fs x
      go rest (yes q) =
          this-weight e q fs h (pair_entries n es fs) (λ z. omega (arith, rest, ap (λ (w : ℕ). weight_of es v * w) z))
          ∙ ap (λ (w : ℕ). w * weight_of fs x) (same _ q refl)
      go rest (no q) = other-weight e q fs h (pair_entries n es fs) ∙ rest ∙ ap (λ (w : ℕ). w * weight_of fs x) (not_same _ q refl)
