-- What is counted of a composition, pair by pair.
use Rattle.std.specs.Prelude.{ℕ, ◌+◌, ◌*◌, ◌≤◌, ◌<◌, ◌≡◌, List, length}
use Rattle.bisimulation.specs.definitions.Choice.{if_same, if_true}
use Rattle.bisimulation.specs.definitions.Sum.{sum}
use Rattle.rules.specs.definitions.Limits.{limits}
use Rattle.rules.specs.definitions.Model.{Transition}
use Rattle.rules.specs.definitions.Reading.{entry_count_at, place_of, model_at}
use Rattle.rules.specs.definitions.SoundModel.{sum_over, entry_count}
use Rattle.transition_record.specs.declared.Fields.{Fields}
use Rattle.transition.specs.Known.{automaton_in}
use Rattle.composition.specs.definitions.Composition.{shared_below}
use Rattle.composition.proofs.argument.PairCounts.{left_count}
use Rattle.composition.proofs.argument.ComposedCounts.{longer}
use Rattle.composed_size.specs.declared.Sizes.{Sizes}
use Rattle.composed_size.specs.Sides.{composed_in}

-- so many transitions, entries and long denominators
pub record SizesAre (f g h : ℕ) (x : Sizes) : Type 0 where
  pub transitions : x.transitions ≡ f
  pub entries : x.entries ≡ g
  pub long : x.long ≡ h

abbrev pub Added : (x y : Sizes) → Sizes → Type 0
Added x y = SizesAre (x.transitions + y.transitions) (x.entries + y.entries) (x.long + y.long)

-- each at most so many: of a pair of transitions, of a move of the left, of all
pub record AtMost (most : ℕ) (x : Sizes) : Type 0 where
  pub transitions : x.transitions ≤ most
  pub entries : x.entries ≤ most
  pub long : x.long ≤ most

abbrev pub pair_most : ℕ
pair_most = 256 * 256

abbrev pub move_most : ℕ
move_most = limits.transitions * pair_most

abbrev pub all_most : ℕ
all_most = limits.transitions * move_most

-- the numbers themselves; three functions at one number; and their sums over the first n numbers, each at most so many
pub record Counted (most f g h : ℕ) (x : Sizes) : Type 0 where
  pub are : SizesAre f g h x
  pub few : AtMost most x

pub record CountedAt (r most : ℕ) (f g h : ℕ → ℕ) (x : Sizes) : Type 0 where
  pub are : SizesAre (f r) (g r) (h r) x
  pub few : AtMost most x

pub record SumsCounted (n most : ℕ) (f g h : ℕ → ℕ) (x : Sizes) : Type 0 where
  pub are : SizesAre (sum n f) (sum n g) (sum n h) x
  pub few : AtMost (n * most) x

-- fields of a transition within their bytes
pub record SmallFields (t : Fields) : Type 0 where
  pub count : t.count < 256
  pub denominator : t.denominator < 65536

-- two transitions as one, where they have one action
pub record PairCounted (t u : Fields) (x : Sizes) : Type 0 where
  pub few : AtMost pair_most x
  pub are :
      SizesAre (if_same u.action t.action 1 0) (if_same u.action t.action (t.count * u.count) 0)
      (if_same u.action t.action (longer (t.denominator * u.denominator)) 0) x

-- how many entries the transition r of a file has
abbrev pub entry_count_of : List ℕ → ℕ → ℕ
entry_count_of s r = entry_count_at s (place_of s r)

-- three functions counted
abbrev pub Counts : Type 1
Counts = (f g h : ℕ → ℕ) → Sizes → Type 0

-- a transition with those of the right that have its action
abbrev pub of_partner : Fields → (right : List ℕ) → (ℕ → ℕ) → ℕ → ℕ
of_partner t right f r = if_same ((automaton_in right).action r) t.action (f r) 0

abbrev pub PartnersCounted : Fields → (right : List ℕ) → Counts → Sizes → Type 0
PartnersCounted t right counts =
    counts (of_partner t right (λ r. 1)) (of_partner t right (λ r. t.count * entry_count_of right r))
    (of_partner t right (λ r. longer (t.denominator * (automaton_in right).denominator r)))

-- the left's moves
abbrev pub LeftCounted : (left right : List ℕ) → Counts → Sizes → Type 0
LeftCounted left right counts =
    counts (left_count (automaton_in left) (automaton_in right) (λ q. length (model_at right).labels) (λ q r. 1))
    (left_count (automaton_in left) (automaton_in right) (λ q. length (model_at right).labels * entry_count_of left q)
    (λ q r. entry_count_of left q * entry_count_of right r))
    (left_count (automaton_in left) (automaton_in right) (λ q. 0) (λ q r. longer ((automaton_in left).denominator q * (automaton_in right).denominator r)))

-- the right's own, beside a left of so many actions and states
abbrev pub of_own : (actions : ℕ) (right : List ℕ) → (ℕ → ℕ) → ℕ → ℕ
of_own actions right f r = if_true (shared_below actions (model_at right).actions ((automaton_in right).action r)) 0 (f r)

abbrev pub RightCounted : (actions states : ℕ) (right : List ℕ) → Counts → Sizes → Type 0
RightCounted actions states right counts =
    counts (of_own actions right (λ r. states)) (of_own actions right (λ r. states * entry_count_of right r)) (of_own actions right (λ r. 0))

-- the composition of two files
abbrev pub MovesCounted : (left right : List ℕ) → Sizes → Type 0
MovesCounted left right =
    SizesAre (length (composed_in left right).transitions) (entry_count (composed_in left right))
    (sum_over (λ (t : Transition). longer t.denominator) (composed_in left right).transitions)
