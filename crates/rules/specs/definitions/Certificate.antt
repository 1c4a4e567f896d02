-- Document 01, 'The certificate' and 'Refused, and where': the records of the certificate file, each judged at its place.
-- What a step rule decides comes in as a `FileRule`.
use Rattle.std.specs.Prelude.{ℕ, zero, suc, ◌+◌, ◌*◌, List, Bool, not, cond, eqb, length, take, drop, get_or, ℤ}
use Rattle.bisimulation.specs.definitions.Choice.{if_less, if_same, if_true, unless_less, unless_true, both, all_below}
use Rattle.bisimulation.specs.definitions.Pairs.{Pairs, removed}
use Rattle.bisimulation.specs.definitions.Automaton.{Automaton}
use Rattle.bisimulation.specs.definitions.StepRule.{Flow}
use Rattle.rules.specs.definitions.Limits.{Limits}
use Rattle.rules.specs.definitions.Bytes.{byte_at, two_at, three_at, four_at, signed_at}
use Rattle.rules.specs.definitions.Faults.{Fault, fault, no_fault, first_of, certificate_record, open_fault}

-- what a step rule decides of a certificate file
pub record FileRule : Type 0 where
  -- the head's mark
  pub mark : ℕ
  -- how many prices a refutation by the challenger q has
  pub price_count : Automaton → ℕ → ℕ
  -- 15 and 16, of the challenger q against t, with the prices as they follow each other in the record
  pub prices_fault : Automaton → Pairs → (q t : ℕ) → (ℕ → ℤ) → Fault
  -- whether an entry of a layer and a transition r is in the question
  pub in_question : Automaton → (q t : ℕ) → (layer r : ℕ) → Bool
  -- 20 and 21, and what a further rule adds behind them
  pub equations_fault : Automaton → (q t : ℕ) → Flow → Fault

-- 'certificate head': the refutation count
unfoldable pub refutation_count : List ℕ → ℕ
refutation_count C = two_at C 2

-- 'certificate head': 11, 12, and 13, 'count above 2,016'; since document 02, K7, above 8,128
unfoldable pub certificate_head_fault : Limits → FileRule → List ℕ → Fault
certificate_head_fault L rule C =
    first_of (open_fault certificate_record rule.mark 4 C 0)
    (if_less L.refutations (refutation_count C) (fault 13)
    no_fault)

-- 'refutation': its challenger transition
unfoldable pub challenger_at : List ℕ → ℕ → ℕ
challenger_at C at = two_at C (at + 2)

-- its defender t
unfoldable pub defender_at : List ℕ → ℕ → ℕ
defender_at C at = byte_at C (at + 4)

-- its prices, as they follow each other
unfoldable pub prices_at : List ℕ → ℕ → ℕ → ℤ
prices_at C at i = signed_at C (at + 5 + 4 * i)

-- the place after the record
unfoldable pub after_refutation : FileRule → Automaton → List ℕ → ℕ → ℕ
after_refutation rule A C at = at + 5 + 4 * rule.price_count A (challenger_at C at)

-- 14, 'transition or state absent, t is s, or pair not related'
unfoldable pub pair_fault : Automaton → Pairs → (q t : ℕ) → Fault
pair_fault A R q t =
    unless_less q A.transitions (fault 14)
    (unless_less t A.states (fault 14)
    (if_same t (A.source q) (fault 14)
    (unless_true (R (A.source q) t) (fault 14)
    no_fault)))

-- 'refutation': 11, 12, 14, 15, 16, judged against the pairs left when it is read
unfoldable pub refutation_fault : FileRule → Automaton → List ℕ → Pairs → ℕ → Fault
refutation_fault rule A C R at =
    first_of (open_fault certificate_record 0x5058 5 C at)
    (first_of (pair_fault A R (challenger_at C at) (defender_at C at))
    (if_less (length C) (after_refutation rule A C at) (fault 11)
    (rule.prices_fault A R (challenger_at C at) (defender_at C at) (prices_at C at))))

-- the pairs left after a refutation
unfoldable pub pairs_after : Automaton → List ℕ → Pairs → ℕ → Pairs
pairs_after A C R at = removed (A.source (challenger_at C at)) (defender_at C at) R

-- 'blocks': 'the block of each state'
unfoldable pub blocks_at : Automaton → List ℕ → ℕ → List ℕ
blocks_at A C at = take A.states (drop (at + 2) C)

-- 17, 'not numbered by first appearance', for the blocks left at a place, after so many block numbers were seen
unfoldable pub numbered_fault : List ℕ → (left at seen : ℕ) → Fault
numbered_fault C zero at seen = no_fault
numbered_fault C (suc left) at seen =
    if_less seen (byte_at C at) (fault 17) (numbered_fault C left (at + 1) (if_same (byte_at C at) seen (seen + 1) seen))

-- 'two states lie in one when that record gives them the same byte'
unfoldable pub same_block : List ℕ → Pairs
same_block blocks v u = eqb (get_or blocks v 0) (get_or blocks u 0)

-- both tests hold or neither does
unfoldable pub agree : Bool → Bool → Bool
agree a b = cond a b (not b)

-- 18, 'differs from the pairs left': 'Two states share a block exactly when they are still related'
unfoldable pub pairs_fault : Automaton → Pairs → List ℕ → Fault
pairs_fault A R blocks =
    unless_true (all_below A.states (λ v. all_below A.states (λ u. agree (same_block blocks v u) (R v u)))) (fault 18)
    no_fault

-- 'blocks': 11, 12, 17, 18
unfoldable pub blocks_fault : Automaton → List ℕ → Pairs → ℕ → Fault
blocks_fault A C R at =
    first_of (open_fault certificate_record 0x424B (2 + A.states) C at)
    (first_of (numbered_fault C A.states (at + 2) 0)
    (pairs_fault A R (blocks_at A C at)))

-- 'flow': 'D 4; k count 2; entries of layer 1, transition 2, k 4; w count 2; entries of v 1, u 1, w 4'. The k count
unfoldable pub k_count_at : List ℕ → ℕ → ℕ
k_count_at C at = two_at C (at + 6)

-- the place after the k entries, where the w count stands
unfoldable pub after_k : List ℕ → ℕ → ℕ
after_k C at = at + 8 + 7 * k_count_at C at

-- the w count
unfoldable pub w_count_at : List ℕ → ℕ → ℕ
w_count_at C at = two_at C (after_k C at)

-- the place after the record
unfoldable pub after_flow : List ℕ → ℕ → ℕ
after_flow C at = after_k C at + 2 + 6 * w_count_at C at

-- 'k and w are at least 1; absent ones are 0': the k of a layer and a transition, among the entries left at a place
unfoldable pub k_of : List ℕ → (left at : ℕ) → (layer r : ℕ) → ℕ
k_of C zero at layer r = 0
k_of C (suc left) at layer r =
    if_true (both (eqb (byte_at C at) layer) (eqb (two_at C (at + 1)) r)) (four_at C (at + 3)) (k_of C left (at + 7) layer r)

-- the w of two states, among the entries left at a place
unfoldable pub w_of : List ℕ → (left at : ℕ) → (v u : ℕ) → ℕ
w_of C zero at v u = 0
w_of C (suc left) at v u =
    if_true (both (eqb (byte_at C at) v) (eqb (byte_at C (at + 1)) u)) (four_at C (at + 2)) (w_of C left (at + 6) v u)

-- the flow that stands in the record
unfoldable pub flow_at : List ℕ → ℕ → Flow
flow_at C at =
    record {
      D = four_at C (at + 2);
      k = k_of C (k_count_at C at) (at + 8);
      w = w_of C (w_count_at C at) (after_k C at + 2);
    }

-- 19 of a k entry: 'out of order, zero, with transition .. absent, or not in the question (its layer, its action ..)', for the entries
-- left at a place. 'Entries strictly ascend by (layer, transition) and by (v,u)': the two fields stand side by
-- side, most significant first, so they ascend as one number does, of which the lowest allowed is given
unfoldable pub k_fault : FileRule → Automaton → List ℕ → (q t : ℕ) → (left at lowest : ℕ) → Fault
k_fault rule A C q t zero at lowest = no_fault
k_fault rule A C q t (suc left) at lowest =
    if_less (three_at C at) lowest (fault 19)
    (unless_less (two_at C (at + 1)) A.transitions (fault 19)
    (unless_true (rule.in_question A q t (byte_at C at) (two_at C (at + 1))) (fault 19)
    (unless_less 0 (four_at C (at + 3)) (fault 19)
    (k_fault rule A C q t left (at + 7) (three_at C at + 1)))))

-- 19 of a w entry: 'out of order, zero, with .. state absent, or not in the question (.. v and u not related)'
unfoldable pub w_fault : Automaton → List ℕ → Pairs → (left at lowest : ℕ) → Fault
w_fault A C R zero at lowest = no_fault
w_fault A C R (suc left) at lowest =
    if_less (two_at C at) lowest (fault 19)
    (unless_less (byte_at C at) A.states (fault 19)
    (unless_less (byte_at C (at + 1)) A.states (fault 19)
    (unless_true (R (byte_at C at) (byte_at C (at + 1))) (fault 19)
    (unless_less 0 (four_at C (at + 2)) (fault 19)
    (w_fault A C R left (at + 6) (two_at C at + 1))))))

-- 'flow': 11, 12, 19, 20, 21, and what a further rule adds. 'In a flow the order is D and k count, k entries, w count, w entries, equations; each part must be whole (11), then is judged,
-- before the next is looked for'
unfoldable pub flow_fault : FileRule → Automaton → List ℕ → Pairs → (q t : ℕ) → ℕ → Fault
flow_fault rule A C R q t at =
    first_of (open_fault certificate_record 0x464C 8 C at)
    (if_same (four_at C (at + 2)) 0 (fault 19)
    (if_less (length C) (after_k C at) (fault 11)
    (first_of (k_fault rule A C q t (k_count_at C at) (at + 8) 0)
    (if_less (length C) (after_k C at + 2) (fault 11)
    (if_less (length C) (after_flow C at) (fault 11)
    (first_of (w_fault A C R (w_count_at C at) (after_k C at + 2) 0)
    (rule.equations_fault A q t (flow_at C at))))))))
