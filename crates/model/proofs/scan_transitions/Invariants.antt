-- `scan_transitions` meets its contract. The invariant is `Walked`.
-- what is known before each record: the places so far, and that the scan of what is left is the whole scan
use Rattle.limits.specs.Sizes as sizes
use Rattle.limits.specs.TermsBy.{limits_by}
use Rattle.limits.specs.declared.Terms.{Terms}
use Rattle.model.specs.Scanned.{PlacesHeld}
use Rattle.rules.specs.definitions.Reading.{scan_transitions, place_of}
use Rattle.rules.specs.definitions.Limits.{limits}
use lib.ListN.{length}
use Prim.Native.Nat.{ℕ, ◌+◌, ◌-◌, ◌≤◌}
use mathlib.Core.List.{List}
use mathlib.Core.Path.{◌≡◌}
use Rattle.model.proofs.scan_transitions.Given as goal

pub record Walked (terms : Terms) (s : List ℕ) (n m count : ℕ) (places : List ℕ) (r last entries at : ℕ) : Type 0 where
  pub inside : at ≤ length s
  pub few : entries ≤ limits.entries
  pub size : length places ≡ sizes.places
  pub place : at ≡ place_of s r
  pub held : PlacesHeld s r places
  pub scan : scan_transitions (limits_by terms) s n m count (count - r) last entries at ≡ scan_transitions (limits_by terms) s n m count count 0 0 (8 + n)

abbrev pub invariant-loop-r : goal.invariant-loop-r
invariant-loop-r l =
    Walked l.terms l.s l.n l.m l.count l.places l.r l.last l.entries l.place.at
