-- What the k entries of a flow change in the remainders, and what they cost.
use Rattle.std.specs.Prelude.{ℕ, zero, suc, ◌+◌, ◌*◌, ◌^◌, ◌≤◌, ◌<◌, ◌≡◌, Bool, true, false, List, length, ℤ, pos, neg_ℤ, Option, None, Some}
use Rattle.rules.specs.definitions.Bytes.{byte_at, two_at, four_at}
use Rattle.bisimulation.specs.definitions.Automaton.{Automaton}
use Rattle.rules.specs.definitions.Certificate.{FileRule, k_fault}
use Rattle.rules.specs.definitions.Faults.{fault, Passes}
use Rattle.rules.specs.definitions.Limits.{limits}
use Rattle.cost_files.specs.definitions.CostModel.{highest_cost}
use Rattle.rule_kind.specs.declared.Kind.{Kind}
use Rattle.rule_kind.specs.Kinds.{KindStands}
use Rattle.rule_kind.specs.Steps.{arrival_of, departure_of}
use Rattle.transition.specs.Known.{automaton_in, entries_of}
use Rattle.remainders.specs.Nonzero.{Counted, Became}
use Rattle.remainders.specs.Moving.{arrived, departed, Room}
use Rattle.entries_k.specs.declared.Taken.{Taken}

-- what is wrong with a k entry, or that nothing is
pub data WrongK (count lowest layer r k : ℕ) (asked : Bool) : Type 0 where
  unordered : layer * 65536 + r < lowest → WrongK count lowest layer r k asked
  absent : count ≤ r → WrongK count lowest layer r k asked
  unasked : asked ≡ false → WrongK count lowest layer r k asked
  nothing : k ≡ 0 → WrongK count lowest layer r k asked

pub record RightK (count lowest layer r k : ℕ) (asked : Bool) : Type 0 where
  pub ordered : lowest ≤ layer * 65536 + r
  pub present : r < count
  pub asked_is : asked ≡ true
  pub some : 0 < k

-- whether nothing is wrong with it
pub record TellsK (count lowest layer r k : ℕ) (asked b : Bool) : Type 0 where
  pub wrong : b ≡ false → WrongK count lowest layer r k asked
  pub right : b ≡ true → RightK count lowest layer r k asked

-- one k entry taken, and the entries left at a place
unfoldable pub took_k : List ℕ → (layer r k : ℕ) → List ℤ → List ℤ
took_k s layer r k remainders =
    departed (automaton_in s) r (neg_ℤ (pos k)) (departure_of layer) (arrived (entries_of s r) (pos k) (arrival_of layer) remainders)

unfoldable pub took_ks : (s C : List ℕ) → (left at : ℕ) → List ℤ → List ℤ
took_ks s C zero at remainders = remainders
took_ks s C (suc left) at remainders = took_ks s C left (at + 7) (took_k s (byte_at C at) (two_at C (at + 1)) (four_at C (at + 3)) remainders)

-- remainders into which a k entry of one of so many transitions can be taken
pub record CanTake (count r k : ℕ) (remainders : List ℤ) (nonzero : ℕ) : Type 0 where
  pub below : r < count
  pub small : k < 2 ^ 32
  pub table : Counted remainders nonzero
  pub room : Room remainders 2

-- a sum over the k entries left at a place, of a term for the layer, the transition and k
unfoldable pub k_sum : List ℕ → (ℕ → ℕ → ℕ → ℕ) → (left at : ℕ) → ℕ
k_sum C f zero at = 0
k_sum C f (suc left) at = f (byte_at C at) (two_at C (at + 1)) (four_at C (at + 3)) + k_sum C f left (at + 7)

-- 'k times d times cost' of one k entry
abbrev pub cost_of_k : (cost : ℕ → ℕ) → Automaton → (layer r k : ℕ) → ℕ
cost_of_k cost A layer r k = k * A.denominator r * cost r

-- the most that it is: k has four bytes, d two
abbrev pub most_cost_of_k : ℕ
most_cost_of_k = 4294967295 * 65535 * highest_cost

-- what is paid with k of the transition r is asked for
pub record PayAsked (kind : Kind) (s : List ℕ) (count r k paid : ℕ) : Type 0 where
  pub stands : KindStands kind s
  pub below : r < count
  pub small : k < 2 ^ 32
  pub fits : paid + most_cost_of_k < 2 ^ 64

-- it is this
pub record PaidIs (cost : ℕ → ℕ) (s : List ℕ) (r k paid after : ℕ) : Type 0 where
  pub is : (layer : ℕ) → after ≡ paid + cost_of_k cost (automaton_in s) layer r k
  pub low : after ≤ paid + most_cost_of_k

-- so many k entries can ascend: one for each layer and transition
abbrev pub most_ks : ℕ
most_ks = 3 * limits.transitions

-- k entries that can be taken: they lie in the file, and the remainders have room for every key once, to arrive and to leave
pub record CanTakeKs (kind : Kind) (s C : List ℕ) (at entries : ℕ) (remainders : List ℤ) (nonzero : ℕ) : Type 0 where
  pub stands : KindStands kind s
  pub whole : at + 7 * entries ≤ length C
  pub table : Counted remainders nonzero
  pub room : Room remainders (2 * most_ks)

-- the k entries are without fault, for each challenger with this action, against t; they are taken, their costs are summed, and the cursor is past them
pub record GoodKs (rule : FileRule) (cost : ℕ → ℕ) (s C : List ℕ) (action t at entries : ℕ) (before remainders : List ℤ) (r : Taken) : Type 0 where
  pub passed : (q : ℕ) → action ≡ (automaton_in s).action q → Passes (k_fault rule (automaton_in s) C q t entries at 0)
  pub became : Became (took_ks s C entries at before) remainders r.nonzero
  pub room : (more : ℕ) → Room before (2 * most_ks + more) → Room remainders more
  pub paid : r.paid ≡ k_sum C (cost_of_k cost (automaton_in s)) entries at
  pub next : r.next.at ≡ at + 7 * entries

-- the k entries come to this, or one of them is at fault
abbrev pub TookKs : (rule : FileRule) (cost : ℕ → ℕ) (s C : List ℕ) (action t at entries : ℕ) (before remainders : List ℤ) → Option Taken → Type 0
TookKs rule cost s C action t at entries before remainders None = (q : ℕ) → action ≡ (automaton_in s).action q → fault 19 ≡ k_fault rule (automaton_in s) C q t entries at 0
TookKs rule cost s C action t at entries before remainders (Some r) = GoodKs rule cost s C action t at entries before remainders r
