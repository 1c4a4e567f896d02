-- Document 01, 'The certificate': the related pairs.
use Rattle.std.specs.Prelude.{ℕ, Bool, false, cond, eqb}
use Rattle.bisimulation.specs.definitions.Choice.{both}
use Rattle.bisimulation.specs.definitions.Automaton.{Automaton}

-- 'related pairs'
abbrev pub Pairs : Type 0
Pairs = ℕ → ℕ → Bool

-- 'The related pairs start as all pairs with equal labels'
unfoldable pub equal_labels : Automaton → Pairs
equal_labels A v u = eqb (A.label v) (A.label u)

-- (v,u) is the pair (s,t)
unfoldable pub is_pair : ℕ → ℕ → Pairs
is_pair s t v u = both (eqb v s) (eqb u t)

-- 'Then (s,t) and (t,s) are removed'
unfoldable pub removed : ℕ → ℕ → Pairs → Pairs
removed s t R v u = cond (is_pair s t v u) false (cond (is_pair t s v u) false (R v u))
