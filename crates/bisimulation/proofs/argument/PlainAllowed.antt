-- What the layers of document 01's movements may use.
use Rattle.std.specs.Prelude.{ℕ, ◌<◌, ◌≡◌, ◌⊎◌}
use Rattle.std.proofs.Common.{inl, inr}
use Rattle.bisimulation.specs.definitions.Choice.{if_same}
use Rattle.bisimulation.proofs.argument.Moves.{Movement, external_movement, plain_movement}
use Rattle.bisimulation.proofs.argument.PlainMoves.{either_movement, three_layers}

-- a layer allows internal transitions, and those with the challenger's action a
abbrev pub Allowed : (a : ℕ) → Movement → Type 0
Allowed a m = (i : ℕ) → i < m.count → (s b : ℕ) → (m.layer i).allows s b → (b ≡ 0) ⊎ (b ≡ a)

pub plain_allowed : (a : ℕ) → Allowed a (plain_movement a)
unfolding if_same
plain_allowed a =
    either_movement (Allowed a) (λ e i l s b h. inl h)
    (λ n. three_layers (λ i. (s b : ℕ) → ((external_movement a).layer i).allows s b → (b ≡ 0) ⊎ (b ≡ a)) (λ s b h. inl h) (λ s b h. inr h) (λ s b h. inl h))
