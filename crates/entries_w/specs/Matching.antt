-- What the w entries of a flow change in the remainders.
use Rattle.std.specs.Prelude.{ℕ, zero, suc, ◌+◌, ◌*◌, ◌≤◌, ◌<◌, ◌≡◌, Bool, true, false, List, length, ℤ, pos, neg_ℤ, Option, None, Some}
use Rattle.bisimulation.specs.definitions.Automaton.{Automaton}
use Rattle.bisimulation.specs.definitions.Pairs.{Pairs}
use Rattle.rules.specs.definitions.Bytes.{byte_at, four_at}
use Rattle.rules.specs.definitions.Certificate.{w_fault}
use Rattle.rules.specs.definitions.Faults.{fault, Passes}
use Rattle.rules.specs.definitions.Limits.{limits}
use Rattle.pairs.specs.Rows.{row_bit, HoldsPairs}
use Rattle.remainders.specs.Nonzero.{Counted, Became}
use Rattle.remainders.specs.Moving.{added, Room}
use Rattle.entries_w.specs.declared.Matched.{Matched}

-- what is wrong with a w entry, or that nothing is
pub data WrongW (n : ℕ) (rows : List ℕ) (lowest v u w : ℕ) : Type 0 where
  unordered : v * 256 + u < lowest → WrongW n rows lowest v u w
  absent : n ≤ v → WrongW n rows lowest v u w
  other_absent : n ≤ u → WrongW n rows lowest v u w
  unrelated : v < n → u < n → row_bit rows v u ≡ false → WrongW n rows lowest v u w
  nothing : w ≡ 0 → WrongW n rows lowest v u w

pub record RightW (n : ℕ) (rows : List ℕ) (lowest v u w : ℕ) : Type 0 where
  pub ordered : lowest ≤ v * 256 + u
  pub present : v < n
  pub other_present : u < n
  pub related : row_bit rows v u ≡ true
  pub some : 0 < w

-- whether nothing is
pub record TellsW (n : ℕ) (rows : List ℕ) (lowest v u w : ℕ) (r : Bool) : Type 0 where
  pub wrong : r ≡ false → WrongW n rows lowest v u w
  pub right : r ≡ true → RightW n rows lowest v u w

-- the w entries left at a place, each of which changes the remainders
unfoldable pub took_ws : List ℕ → ((v u w : ℕ) → List ℤ → List ℤ) → (left at : ℕ) → List ℤ → List ℤ
took_ws C change zero at remainders = remainders
took_ws C change (suc left) at remainders = took_ws C change left (at + 6) (change (byte_at C at) (byte_at C (at + 1)) (four_at C (at + 2)) remainders)

-- taken at v, and at u
abbrev pub took_vs : List ℕ → (first left at : ℕ) → List ℤ → List ℤ
took_vs C first = took_ws C (λ v u w remainders. added remainders (first + v) 1 (neg_ℤ (pos w)))

abbrev pub took_us : List ℕ → (d left at : ℕ) → List ℤ → List ℤ
took_us C d = took_ws C (λ v u w target. added target u d (pos w))

-- so many w entries can ascend: one for each pair
abbrev pub most_ws : ℕ
most_ws = limits.states * limits.states

-- w entries that can be taken: they lie in the file, and both tables have room for every key once
pub record CanTakeWs (C : List ℕ) (at entries n d first : ℕ) (remainders : List ℤ) (nonzero : ℕ) (target : List ℤ) (asked : ℕ) : Type 0 where
  pub whole : at + 6 * entries ≤ length C
  pub few : n ≤ limits.states
  pub light : d < 65536
  pub layer : first ≤ limits.states
  pub table : Counted remainders nonzero
  pub room : Room remainders most_ws
  pub target_table : Counted target asked
  pub target_room : Room target most_ws

-- the w entries are without fault, for the pairs that the rows hold; they are taken, and the cursor is past them
pub record GoodWs (C : List ℕ) (at entries n : ℕ) (rows : List ℕ) (d first : ℕ) (before remainders target_before target : List ℤ) (r : Matched) : Type 0 where
  pub passed : (A : Automaton) (R : Pairs) → A.states ≡ n → HoldsPairs n R rows → Passes (w_fault A C R entries at 0)
  pub became : Became (took_vs C first entries at before) remainders r.nonzero
  pub target_became : Became (took_us C d entries at target_before) target r.target
  pub next : r.next.at ≡ at + 6 * entries

-- the w entries come to this, or one of them is at fault
abbrev pub TookWs : (C : List ℕ) (at entries n : ℕ) (rows : List ℕ) (d first : ℕ) (before remainders target_before target : List ℤ) → Option Matched → Type 0
TookWs C at entries n rows d first before remainders target_before target None = (A : Automaton) (R : Pairs) → A.states ≡ n → HoldsPairs n R rows → fault 19 ≡ w_fault A C R entries at 0
TookWs C at entries n rows d first before remainders target_before target (Some r) = GoodWs C at entries n rows d first before remainders target_before target r
