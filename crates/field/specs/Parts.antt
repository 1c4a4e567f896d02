-- A byte of a part of a file.
use Rattle.std.specs.Prelude.{ℕ, ◌+◌, ◌-◌, ◌<◌, ◌≡◌, List, take, drop, get_or}
use Rattle.std.proofs.Common.{◌∙◌}
use Rattle.std.proofs.lemmas.List.{get_or-take, get_or-drop}
use Rattle.rules.specs.definitions.Bytes.{byte_at}

pub byte-of-part : (s : List ℕ) (from to i : ℕ) → i < to - from → get_or (take (to - from) (drop from s)) i 0 ≡ byte_at s (from + i)
unfolding byte_at
byte-of-part s from to i h = get_or-take (to - from) (drop from s) i 0 h ∙ get_or-drop from s i 0
