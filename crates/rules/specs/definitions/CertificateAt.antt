-- Document 01, 'The certificate': the certificate that stands in the bytes of a file.
use Rattle.std.specs.Prelude.{ℕ, zero, suc, ◌+◌, List, [], ◌∷◌, length}
use Rattle.bisimulation.specs.definitions.Automaton.{Automaton}
use Rattle.rules.specs.definitions.Bytes.{byte_at, two_at, four_at, signed_at}
use Rattle.rules.specs.definitions.Certificate.{FileRule, refutation_count, challenger_at, defender_at, after_refutation, blocks_at, k_count_at, after_k, w_count_at, after_flow}
use Rattle.rules.specs.definitions.Judging.{questions}
use Rattle.rules.specs.definitions.Encoding.{Refutation, KEntry, WEntry, FlowRecord, Certificate}

-- the entries of one size that are read from a place on
unfoldable pub entries_from : {E : Type 0} → (size : ℕ) → (ℕ → E) → (left at : ℕ) → List E
entries_from size read_at zero at = []
entries_from size read_at (suc left) at = read_at at ∷ entries_from size read_at left (at + size)

-- the refutation at a place
unfoldable pub refutation_at : FileRule → Automaton → List ℕ → ℕ → Refutation
refutation_at rule A C at =
    record {
      challenger = challenger_at C at;
      defender = defender_at C at;
      prices = entries_from 4 (signed_at C) (rule.price_count A (challenger_at C at)) (at + 5);
    }

-- the k entry at a place
unfoldable pub k_at : List ℕ → ℕ → KEntry
k_at C at = record { layer = byte_at C at; transition = two_at C (at + 1); k = four_at C (at + 3) }

-- the w entry
unfoldable pub w_at : List ℕ → ℕ → WEntry
w_at C at = record { v = byte_at C at; u = byte_at C (at + 1); w = four_at C (at + 2) }

-- the flow record
unfoldable pub flow_record_at : List ℕ → ℕ → FlowRecord
flow_record_at C at =
    record {
      D = four_at C (at + 2);
      ks = entries_from 7 (k_at C) (k_count_at C at) (at + 8);
      ws = entries_from 6 (w_at C) (w_count_at C at) (after_k C at + 2);
    }

-- the refutations left from a place on
unfoldable pub refutations_from : FileRule → Automaton → List ℕ → (left at : ℕ) → List Refutation
refutations_from rule A C zero at = []
refutations_from rule A C (suc left) at = refutation_at rule A C at ∷ refutations_from rule A C left (after_refutation rule A C at)

-- the place after them
unfoldable pub after_refutations : FileRule → Automaton → List ℕ → (left at : ℕ) → ℕ
after_refutations rule A C zero at = at
after_refutations rule A C (suc left) at = after_refutations rule A C left (after_refutation rule A C at)

-- where the blocks record stands
unfoldable pub blocks_place : FileRule → Automaton → List ℕ → ℕ
blocks_place rule A C = after_refutations rule A C (refutation_count C) 4

-- where the flows begin
unfoldable pub flows_place : FileRule → Automaton → List ℕ → ℕ
flows_place rule A C = blocks_place rule A C + 2 + A.states

-- the flows left from a place on
unfoldable pub flows_from : List ℕ → (left at : ℕ) → List FlowRecord
flows_from C zero at = []
flows_from C (suc left) at = flow_record_at C at ∷ flows_from C left (after_flow C at)

-- the certificate: as many refutations as its head says, the blocks, and a flow for each question
unfoldable pub certificate_at : FileRule → Automaton → List ℕ → Certificate
certificate_at rule A C =
    record {
      refutations = refutations_from rule A C (refutation_count C) 4;
      blocks = blocks_at A C (blocks_place rule A C);
      flows = flows_from C (length (questions A (blocks_at A C (blocks_place rule A C)))) (flows_place rule A C);
    }
