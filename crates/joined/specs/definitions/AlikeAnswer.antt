-- Document 02, K1: 'for a joined model, the first's state count, a certificate and one state of each part by joined numbers, say yes or no
-- (no if refused)'.
use Rattle.std.specs.Prelude.{ℕ, ◌≤◌, ◌<◌, ◌≡◌, ◌↔◌, List, [], ◌∷◌, length}
use Rattle.bisimulation.specs.definitions.Choice.{if_less, if_same, if_true, unless_less}
use Rattle.bisimulation.specs.definitions.Largest.{BisimilarByPairs}
use Rattle.rules.specs.definitions.Limits.{current}
use Rattle.rules.specs.definitions.Model.{Model, automaton_of}
use Rattle.rules.specs.definitions.Reading.{Reading, model, no_model}
use Rattle.rules.specs.definitions.Certificate.{same_block}
use Rattle.rules.specs.definitions.Judging.{Judgement, accepted, refused_in, judge}
use Rattle.rules.specs.definitions.JudgedBy.{JudgedBy}
use Rattle.rules.specs.definitions.Answers.{answer_without_place, unwritten, Follows, LateNumber}
use Rattle.rules.specs.definitions.Demands.{KeepsRulesOn}

-- 'the first's state count' and 'one state of each part by joined numbers'
pub record Named : Type 0 where
  pub first_count : ℕ
  pub first_state : ℕ
  pub second_state : ℕ

-- the named states are in their parts of a model of n states
pub record InParts (n : ℕ) (x : Named) : Type 0 where
  pub count : x.first_count ≤ n
  pub first : x.first_state < x.first_count
  pub second : x.first_count ≤ x.second_state
  pub inside : x.second_state < n

-- 27: 'the first's count above n or a named state not in its part', for a model of n states; else 0
unfoldable pub parts_number : ℕ → Named → ℕ
parts_number n x =
    if_less n x.first_count 27
    (unless_less x.first_state x.first_count 27
    (if_less x.second_state x.first_count 27
    (unless_less x.second_state n 27
    0)))

-- 'after acceptance' 27 or nothing more; 'a call lends no buffer but those its request names'
abbrev pub tests_parts : Named → Follows
tests_parts x =
    record {
      block_room = λ N. 0;
      outcome = λ N blocks before. unwritten (answer_without_place (parts_number (length N.labels) x)) before;
      late = 27 ∷ [];
    }

-- 'yes or no (no if refused)', 1 for yes: where 27 does not refuse, whether the two states share an accepted block
unfoldable pub alike_judged : Named → Model → Judgement → ℕ
alike_judged x N (accepted blocks) =
    if_same (parts_number (length N.labels) x) 0 (if_true (same_block blocks x.first_state x.second_state) 1 0) 0
alike_judged x N (refused_in f file place) = 0

unfoldable pub alike_read : Named → Reading → Judgement → ℕ
alike_read x (model N end) judged = alike_judged x N judged
alike_read x (no_model f place) judged = 0

-- what the call says
unfoldable pub alike_says : JudgedBy → Named → (M C : List ℕ) → ℕ
alike_says by x M C = alike_read x (by.read M) (judge by.limits by.read (by.file M) M C)

-- its numbers
abbrev pub AlikeNumber : ℕ → Type 0
AlikeNumber = LateNumber current.terms (27 ∷ [])

-- what it says, with this number, is what the request asks
pub record SaysAlike (by : JudgedBy) (x : Named) (M C : List ℕ) (number said : ℕ) : Type 0 where
  pub says : said ≡ alike_says by x M C
  -- 'after acceptance' 27 refuses exactly where a state is not in its part
  pub parted : (N : Model) (blocks : List ℕ) → KeepsRulesOn by M C N blocks → (number ≡ 0) ↔ InParts (length N.labels) x
  -- 'no if refused'
  pub refused : (number ≡ 0 → ⊥) → said ≡ 0
  -- 'For an accepted certificate, where 27 does not refuse, yes is said exactly when some symmetric relation that keeps labels and meets the
  -- step rule links the two'; for sets of pairs, as a contract can say it (`alike-bisimilar` has it for relations of any kind)
  pub exactly : number ≡ 0 → (N : Model) → by.is_file M N → (said ≡ 1) ↔ BisimilarByPairs (by.met M) (automaton_of N) x.first_state x.second_state
