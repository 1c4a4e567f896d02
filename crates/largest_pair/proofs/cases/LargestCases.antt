-- Two pairs byte by byte, and what the call answers, case by case.
use Rattle.std.specs.Prelude.{ℕ, ◌≡◌, refl, List, [], ◌∷◌, ◌++◌, map, length, take, drop, replicate}
use Rattle.bisimulation.specs.definitions.Choice.{if_less, if_true}
use Rattle.rules.specs.definitions.Limits.{current}
use Rattle.rules.specs.definitions.Bytes.{two_bytes}
use Rattle.rules.specs.definitions.Model.{head_bytes, labels_bytes, entries_bytes, transition_bytes, transitions_bytes, model_bytes}
use Rattle.rules.specs.definitions.Encoding.{four_bytes, list_bytes, k_bytes, w_bytes, refutation_bytes, blocks_bytes, flow_bytes, certificate_bytes}
use Rattle.rules.specs.definitions.SoundModel.{Each}
use Rattle.rules.specs.definitions.Answers.{Outcome, answer_without_place, unwritten, filled_with, filled_each, filled, room_for, files_outcome}
use Rattle.rules.proofs.cases.MoreCases.{two_left}
use Rattle.largest_pair.specs.definitions.LargestPair.{largest_model, flows_against, largest_certificate, largest_model_file, largest_certificate_file}
use Rattle.largest_pair.specs.definitions.LargestAnswer.{outside_limits, largest_outcome}

-- a flow: D 1, no k, w(t,0) 1
abbrev flow : (t : ℕ) → List ℕ
flow t = 0x46 ∷ 0x4C ∷ 0 ∷ 0 ∷ 0 ∷ 1 ∷ 0 ∷ 0 ∷ 0 ∷ 1 ∷ t ∷ 0 ∷ 0 ∷ 0 ∷ 0 ∷ 1 ∷ []

abbrev loop : List ℕ
loop = 0x54 ∷ 0x52 ∷ 0 ∷ 0 ∷ 0 ∷ 1 ∷ 1 ∷ 0 ∷ 0 ∷ 1 ∷ []

-- three states and two transitions: the flows of state 1, then those of state 2
abbrev model32 : List ℕ
model32 = 0x50 ∷ 0x41 ∷ 3 ∷ 1 ∷ 0 ∷ 2 ∷ 0x4C ∷ 0x42 ∷ 0 ∷ 0 ∷ 0 ∷ (loop ++ loop)

abbrev certificate32 : List ℕ
certificate32 = 0x43 ∷ 0x54 ∷ 0 ∷ 0 ∷ 0x42 ∷ 0x4B ∷ 0 ∷ 0 ∷ 0 ∷ (flow 1 ++ (flow 1 ++ (flow 2 ++ flow 2)))

-- one state
abbrev model10 : List ℕ
model10 = 0x50 ∷ 0x41 ∷ 1 ∷ 1 ∷ 0 ∷ 0 ∷ 0x4C ∷ 0x42 ∷ 0 ∷ []

abbrev certificate1 : List ℕ
certificate1 = 0x43 ∷ 0x54 ∷ 0 ∷ 0 ∷ 0x42 ∷ 0x4B ∷ 0 ∷ []

pub file-cases : (largest_model_file 3 2 ≡ model32) × (largest_certificate_file 3 2 ≡ certificate32) × (largest_model_file 1 0 ≡ model10) × (largest_certificate_file 1 0 ≡ certificate1) × (take 6 (largest_model_file 1 256) ≡ 0x50 ∷ 0x41 ∷ 1 ∷ 1 ∷ 1 ∷ 0 ∷ []) × (largest_certificate_file 1 256 ≡ certificate1)
unfolding two_bytes four_bytes head_bytes labels_bytes entries_bytes transition_bytes transitions_bytes model_bytes list_bytes w_bytes blocks_bytes flow_bytes certificate_bytes largest_model flows_against largest_certificate
file-cases = (refl, refl, refl, refl, refl, refl)

-- n, T and both buffers, and what the call answers and leaves
pub record LargestCase : Type 0 where
  pub n : ℕ
  pub T : ℕ
  pub one : List ℕ
  pub two : List ℕ
  pub expected : Outcome

abbrev nothing : (n T number : ℕ) → (one two : List ℕ) → LargestCase
nothing n T number one two = record { n = n; T = T; one = one; two = two; expected = two_left number one 0 two 0 }

unfoldable pub largest_cases : List LargestCase
largest_cases =
    -- no state, a state or a transition too many: 40, also where no buffer is long enough
    nothing 0 0 40 [] []
    ∷ nothing 129 0 40 [] []
    ∷ nothing 1 257 40 [] []
    ∷ nothing 129 257 40 (replicate 20 7) (replicate 20 7)
    -- one state and one transition: 19 and 7 bytes. One less in either buffer: 41, and neither is written
    ∷ nothing 1 1 41 (replicate 18 7) (replicate 7 7)
    ∷ nothing 1 1 41 (replicate 19 7) (replicate 6 7)
    ∷ record { n = 1; T = 1; one = replicate 19 7; two = replicate 7 7; expected = two_left 0 (0x50 ∷ 0x41 ∷ 1 ∷ 1 ∷ 0 ∷ 1 ∷ 0x4C ∷ 0x42 ∷ 0 ∷ loop) 19 certificate1 7 }
    -- no transition, with longer buffers: later bytes stay
    ∷ record {
      n = 1;
      T = 0;
      one = replicate 9 7 ++ (9 ∷ 8 ∷ []);
      two = replicate 7 7 ++ (6 ∷ []);
      expected = two_left 0 (model10 ++ (9 ∷ 8 ∷ [])) 9 (certificate1 ++ (6 ∷ [])) 7;
    }
    -- a pair with flows
    ∷ record { n = 3; T = 2; one = replicate 31 7; two = replicate 73 7; expected = two_left 0 model32 31 certificate32 73 }
    ∷ nothing 3 2 41 (replicate 31 7) (replicate 72 7)
    -- the largest of all: 520,326 bytes are not there
    ∷ nothing 128 256 41 [] []
    ∷ []

pub largest-cases : Each (λ (c : LargestCase). largest_outcome current c.n c.T c.one c.two ≡ c.expected) largest_cases
unfolding if_less if_true two_bytes four_bytes head_bytes labels_bytes entries_bytes transition_bytes transitions_bytes model_bytes list_bytes w_bytes blocks_bytes flow_bytes certificate_bytes answer_without_place unwritten filled_with filled_each filled room_for files_outcome largest_model flows_against largest_certificate outside_limits largest_outcome Each largest_cases
largest-cases = (refl, (refl, (refl, (refl, (refl, (refl, (refl, (refl, (refl, (refl, (refl, tt)))))))))))
