-- Laws of the table of places.
use Rattle.std.specs.Prelude.{ℕ, ◌+◌, ◌<◌, ◌≡◌, List, length, get_or, set}
use Rattle.std.proofs.Common.{sym, ◌∙◌, ap, get_or-set_same, get_or-set_other, arith}
use Rattle.std.proofs.Math.Decide.{ℕ_discrete}
use Rattle.rules.specs.definitions.Reading.{place_of}
use Rattle.model.specs.Scanned.{PlacesHeld}

-- an empty table holds the places of no transition
pub none-held : (s table : List ℕ) → PlacesHeld s 0 table
none-held s table = record { held = λ r h. absurd (omega arith) }

-- one more place
pub one-more-held : (s table : List ℕ) (count at : ℕ) → PlacesHeld s count table → count < length table → at ≡ place_of s count → PlacesHeld s (count + 1) (set table count at)
one-more-held s table count at h room e = record { held = λ r less. go r less (ℕ_discrete r count) }
  where
    go : (r : ℕ) → r < count + 1 → Dec (r ≡ count) → get_or (set table count at) r 0 ≡ place_of s r
    go r less (yes q) =
        ap (λ (k : ℕ). get_or (set table count at) k 0) q ∙ get_or-set_same table count at 0 room ∙ e ∙ ap (place_of s) (sym q)
    go r less (no q) = get_or-set_other table count r at 0 q ∙ h.held r (omega arith)
