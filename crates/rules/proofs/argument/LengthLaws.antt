-- How long files are: no model within the limits has a file longer than the longest, and no longer file is read.
use Rattle.std.specs.Prelude.{ℕ, ◌+◌, ◌*◌, ◌≤◌, ◌<◌, ◌≡◌, refl, List, [], ◌∷◌, length}
use Rattle.std.proofs.Common.{ap, length-append, arith}
use Rattle.rules.specs.definitions.Limits.{Limits, limits, longest_model}
use Rattle.rules.specs.definitions.Bytes.{two_bytes}
use Rattle.rules.specs.definitions.Model.{Transition, Model, transition_bytes, transitions_bytes, head_bytes, labels_bytes, model_bytes}
use Rattle.rules.specs.definitions.SoundModel.{sum_over, Bytes, SoundModel, entry_count}
use Rattle.rules.specs.definitions.Faults.{Fault}
use Rattle.rules.specs.definitions.Reading.{Reading, model, no_model, read_whole}
use Rattle.rules.specs.definitions.Judging.{Reader}
use Rattle.rules.proofs.argument.ReadBack.{transition_bytes-length}
use Rattle.rules.proofs.argument.ReadSound.{read-whole-sound}

-- the bytes of transitions: 7 for each, and 3 for each entry
records-length : (ts : List Transition) → length (transitions_bytes ts) ≡ 7 * length ts + 3 * sum_over (λ (t : Transition). length t.entries) ts
unfolding transitions_bytes sum_over
records-length [] = refl
records-length (t ∷ ts) = omega (arith, length-append (transition_bytes t) (transitions_bytes ts), transition_bytes-length t, records-length ts)

pub file-length : (M : Model) → length (model_bytes M) ≡ 8 + length M.labels + 7 * length M.transitions + 3 * entry_count M
unfolding model_bytes head_bytes labels_bytes two_bytes
file-length M = omega (arith, length-append M.labels (transitions_bytes M.transitions), records-length M.transitions)

-- a model within the limits of states, transitions and entries
pub record Within (L : Limits) (M : Model) : Type 0 where
  pub states : length M.labels ≤ L.states
  pub transitions : length M.transitions ≤ L.transitions
  pub entries : entry_count M ≤ L.entries

-- a sound model is one
pub sound-within : (L : Limits) (M : Model) → SoundModel L M → Within L M
sound-within L M s = record { states = s.states; transitions = s.count; entries = s.entries }

pub longest-file : (L : Limits) (M : Model) → Within L M → length (model_bytes M) ≤ longest_model L
longest-file L M w = omega (arith, file-length M, w.states, w.transitions, w.entries)

-- a file that is longer than those that are read is refused
pub longer-refused : (read : Reader) (s : List ℕ) (most : ℕ) → ((M : Model) (end : ℕ) → read s ≡ model M end → length s ≤ most) → most < length s → (f : Fault) × (place : ℕ) × (read s ≡ no_model f place)
longer-refused read s most longest long = go (read s) refl
  where
    go : (r : Reading) → read s ≡ r → (f : Fault) × (place : ℕ) × (read s ≡ no_model f place)
    go (model M end) e = absurd (omega (arith, long, longest M end e))
    go (no_model f place) e = (f, place, e)

pub longer-unread : (L : Limits) (s : List ℕ) → Bytes s → longest_model L < length s → (f : Fault) × (place : ℕ) × (read_whole L s ≡ no_model f place)
longer-unread L s b =
    longer-refused (read_whole L) s (longest_model L)
    (λ M end e. let k = read-whole-sound L s M end b e in omega (arith, longest-file L M (sound-within L M k.0), ap length k.1))

-- today's: 8 + 128 + 7 · 256 + 3 · 2,048
pub longest-today : longest_model limits ≡ 8072
longest-today = refl
