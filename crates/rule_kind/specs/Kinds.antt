-- The step rules that a pair can be judged by.
use Rattle.std.specs.Prelude.{ℕ, ◌+◌, ◌≤◌, ◌<◌, ◌≡◌, Bool, true, false, List, length}
use Rattle.rules.specs.definitions.Bytes.{byte_at}
use Rattle.rules.specs.definitions.Reading.{states_of, count_of}
use Rattle.rules.specs.definitions.Certificate.{FileRule}
use Rattle.rules.specs.definitions.Limits.{Limits}
use Rattle.rules.specs.definitions.PlainRule.{plain_rule}
use Rattle.rules.specs.definitions.JudgedBy.{JudgedBy, plain_pairs_at}
use Rattle.cost_files.specs.definitions.CostModel.{highest_cost, cost_of, transitions_end, costs_in}
use Rattle.cost_files.specs.definitions.CostFile.{cost_file}
use Rattle.cost_files.specs.definitions.CostPairs.{cost_pairs_at}
use Rattle.strong_files.specs.definitions.StrongFile.{strong_file}
use Rattle.strong_files.specs.definitions.StrongPairs.{strong_pairs_at}
use Rattle.limits.specs.TermsBy.{limits_by}
use Rattle.limits.specs.declared.Terms.{Terms}
use Rattle.transition.specs.Known.{Known}
use Rattle.rule_kind.specs.declared.Kind.{Kind}
use Rattle.rule_kind.specs.declared.Kind.TheVariants.{Plain, Costs, Strong}

-- whether no internal step is skipped
abbrev pub is_strong : Kind → Bool
is_strong Plain = false
is_strong Costs = false
is_strong Strong = true

-- whether transitions have costs
abbrev pub has_costs : Kind → Bool
has_costs Plain = false
has_costs Costs = true
has_costs Strong = false

-- what pairs are judged by within limits
abbrev pub pairs_at : Kind → Limits → JudgedBy
pairs_at Plain = plain_pairs_at
pairs_at Costs = cost_pairs_at
pairs_at Strong = strong_pairs_at

-- what the rule of a model file decides of a certificate file
abbrev pub rule_of : Kind → (model : List ℕ) → FileRule
rule_of Plain model = plain_rule
rule_of Costs model = cost_file (costs_in model)
rule_of Strong model = strong_file

-- what pairs are judged by, with these terms
abbrev pub pairs_by : Kind → Terms → JudgedBy
pairs_by kind terms =
    record {
      limits = limits_by terms;
      read = (pairs_at kind (limits_by terms)).read;
      spelled = (pairs_at kind (limits_by terms)).spelled;
      is_file = (pairs_at kind (limits_by terms)).is_file;
      file = rule_of kind;
      says = (pairs_at kind (limits_by terms)).says;
      met = (pairs_at kind (limits_by terms)).met;
      one_automaton = (pairs_at kind (limits_by terms)).one_automaton;
    }

-- the mark of a certificate's head, whatever the model
abbrev pub mark_of : Kind → ℕ
mark_of Plain = 0x4354
mark_of Costs = 0x4343
mark_of Strong = 0x4353

-- the cost of each transition, none without costs
abbrev pub cost_in : Kind → (model : List ℕ) → ℕ → ℕ
cost_in Plain model r = 0
cost_in Costs model r = cost_of (costs_in model) r
cost_in Strong model r = 0

-- the cost record lies in the file, and no cost is above the highest
pub record CostsThere (s : List ℕ) : Type 0 where
  pub inside : transitions_end s + 2 + count_of s ≤ length s
  pub low : (r : ℕ) → r < count_of s → byte_at s (transitions_end s + 2 + r) ≤ highest_cost

-- the model has what the rule asks of it
abbrev pub KindStands : Kind → List ℕ → Type 0
KindStands Plain s = Unit {0}
KindStands Costs s = CostsThere s
KindStands Strong s = Unit {0}

-- the cost of a transition of a sound model is asked for
pub record CostAsked (kind : Kind) (s : List ℕ) (count : ℕ) (places : List ℕ) (r : ℕ) : Type 0 where
  pub known : Known s (states_of s) count places
  pub stands : KindStands kind s
  pub below : r < count

-- it is the rule's
pub record CostIs (kind : Kind) (s : List ℕ) (r cost : ℕ) : Type 0 where
  pub is : cost ≡ cost_in kind s r
  pub low : cost ≤ highest_cost
