-- The laws of parts that follow each other.
use Rattle.std.specs.Prelude.{ℕ, zero, suc, ◌+◌, ◌-◌, ◌<◌, ◌≡◌, refl}
use Rattle.std.proofs.Math.Path.{sym}
use Rattle.std.proofs.Common.{◌∙◌, ap, ap₂, subst, arith}
use Rattle.std.proofs.Math.Nat.{add-sub_cancel_left}
use Rattle.std.proofs.Math.Decide.{ℕ_discrete, dec_lt}
use Rattle.bisimulation.specs.definitions.Choice.{if_less, if_same}
use Rattle.bisimulation.specs.definitions.Sum.{sum}
use Rattle.bisimulation.proofs.argument.ChoiceLaws.{less, not_less, same, not_same}
use Rattle.bisimulation.proofs.argument.Parts.{parts, square}

-- each number is in one of the two
pub by_parts {ℓ} : (n m : ℕ) (P : ℕ → Type ℓ) → ((v : ℕ) → v < n → P v) → ((v : ℕ) → v < m → P (n + v)) → (v : ℕ) → v < n + m → P v
by_parts n m P first second v l = go (dec_lt v n)
  where
    go : Dec (v < n) → P v
    go (yes h) = first v h
    go (no h) = let e : n + (v - n) ≡ v = omega arith in subst P e (second (v - n) (omega arith))

-- what is said of one of the first n, and of one that follows them
module _ {ℓ} {X : Type ℓ} (n : ℕ) (f g : ℕ → X) where
  pub in_first : (i : ℕ) → i < n → parts n f g i ≡ f i
  unfolding parts
  in_first i l = sym (less (g (i - n)) l refl)

  pub in_second : (i : ℕ) → parts n f g (n + i) ≡ g i
  unfolding parts
  in_second i = sym (not_less (f (n + i)) (omega arith) (ap g (sym (add-sub_cancel_left n i))))

pub parts_cong {ℓ} : {X : Type ℓ} (n : ℕ) {f g f' g' : ℕ → X} → ((i : ℕ) → f i ≡ f' i) → ((i : ℕ) → g i ≡ g' i) → (i : ℕ) → parts n f g i ≡ parts n f' g' i
unfolding parts
parts_cong n first second i = ap₂ (λ x y. if_less i n x y) (first i) (second (i - n))

-- numbers raised by n are equal where they were
pub raised_same {ℓ} : {X : Type ℓ} (n a b : ℕ) (x y : X) → if_same (n + a) (n + b) x y ≡ if_same a b x y
raised_same n a b x y = go (ℕ_discrete a b)
  where
    go : Dec (a ≡ b) → if_same (n + a) (n + b) x y ≡ if_same a b x y
    go (yes e) = same y e (sym (same y (omega arith) refl))
    go (no e) = not_same x e (sym (not_same x (omega arith) refl))

-- a sum over both is the sum over the first and the sum over those that follow
pub sum_split : (n m : ℕ) (f : ℕ → ℕ) → sum (n + m) f ≡ sum n f + sum m (λ i. f (n + i))
unfolding sum
sum_split n zero f = let e : n + 0 ≡ n = omega arith in ap (λ (k : ℕ). sum k f) e ∙ omega arith
sum_split n (suc m) f = let e : n + suc m ≡ suc (n + m) = omega arith in ap (λ (k : ℕ). sum k f) e ∙ omega (arith, sum_split n m f)

-- the four corners
module _ (n : ℕ) (firsts over back seconds : ℕ → ℕ → ℕ) where
  pub at_firsts : (v u : ℕ) → v < n → u < n → square n firsts over back seconds v u ≡ firsts v u
  unfolding square
  at_firsts v u l k = in_first n _ _ v l ∙ in_first n _ _ u k

  pub at_over : (v u : ℕ) → v < n → square n firsts over back seconds v (n + u) ≡ over v u
  unfolding square
  at_over v u l = in_first n _ _ v l ∙ in_second n _ _ u

  pub at_back : (v u : ℕ) → u < n → square n firsts over back seconds (n + v) u ≡ back v u
  unfolding square
  at_back v u k = in_second n _ _ v ∙ in_first n _ _ u k

  pub at_seconds : (v u : ℕ) → square n firsts over back seconds (n + v) (n + u) ≡ seconds v u
  unfolding square
  at_seconds v u = in_second n _ _ v ∙ in_second n _ _ u
