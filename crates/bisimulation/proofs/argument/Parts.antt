-- What is said of two things that follow each other, part by part.
use Rattle.std.specs.Prelude.{ℕ, ◌-◌}
use Rattle.bisimulation.specs.definitions.Choice.{if_less}

-- f for the first n numbers, g for those that follow them
unfoldable pub parts {ℓ} : {X : Type ℓ} → ℕ → (f g : ℕ → X) → ℕ → X
parts n f g i = if_less i n (f i) (g (i - n))

-- nothing between any two
unfoldable pub nothing : ℕ → ℕ → ℕ
nothing v u = 0

-- the same for two numbers: the first among the first n or not, then the second
unfoldable pub square : ℕ → (firsts over back seconds : ℕ → ℕ → ℕ) → ℕ → ℕ → ℕ
square n firsts over back seconds v u =
    parts n (λ x. parts n (firsts x) (over x) u) (λ x. parts n (back x) (seconds x) u) v
