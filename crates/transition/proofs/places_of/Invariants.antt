-- `places_of` meets its contract: each record begins where the one before it ends.
-- the places of the first r transitions stand in the table, and the next one begins here
use Prim.Native.Nat.{ℕ}
use mathlib.Core.List.{List}
use mathlib.Core.Path.{◌≡◌}
use lib.ListN.{length}
use Rattle.limits.specs.Sizes as sizes
use Rattle.rules.specs.definitions.Reading.{place_of}
use Rattle.model.specs.Scanned.{PlacesHeld}
use Rattle.transition.proofs.places_of.Given as goal

pub record Walked (s places : List ℕ) (place r : ℕ) : Type 0 where
  pub here : place ≡ place_of s r
  pub held : PlacesHeld s r places
  pub size : length places ≡ sizes.places

abbrev pub invariant-loop-r : goal.invariant-loop-r
invariant-loop-r l = Walked l.s l.places l.place l.r
