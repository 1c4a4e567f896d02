-- Document 02, K10: a transition in lowest terms, as it is computed.
use Rattle.std.specs.Prelude.{ℕ, ◌/◌, List, map}
use Rattle.numbers.specs.definitions.Divisor.{divisor_of}
use Rattle.rules.specs.definitions.Model.{Entry, Transition}

-- the weights of a transition
abbrev pub weights_of : Transition → List ℕ
weights_of t = map (λ (e : Entry). e.weight) t.entries

-- 'their greatest common divisor g'; it divides d too, which is their sum
unfoldable pub divisor_in : Transition → ℕ
divisor_in t = divisor_of 0 (weights_of t)

-- an entry with its weight divided
unfoldable pub divided_entry : (g : ℕ) → Entry → Entry
divided_entry g e = record { state = e.state; weight = e.weight / g }

-- 'weights and d are divided by their greatest common divisor g'
unfoldable pub in_lowest : Transition → Transition
in_lowest t =
    record {
      source = t.source;
      action = t.action;
      denominator = t.denominator / divisor_in t;
      entries = map (divided_entry (divisor_in t)) t.entries;
    }
