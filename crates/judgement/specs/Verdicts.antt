-- What a judging call finds, in document 01's terms.
use Rattle.std.specs.Prelude.{ℕ, ◌+◌, ◌≤◌, ◌<◌, ◌≡◌, ◌↔◌, List, [], ◌∷◌, length, take, drop, Result, Ok, Err, IfOk, IfErr}
use Rattle.rules.specs.definitions.Limits.{limits}
use Rattle.rules.specs.definitions.Model.{Model}
use Rattle.rules.specs.definitions.Reading.{Scan, head_fault, scan_whole, model_at, model}
use Rattle.rules.specs.definitions.Answers as rules
use Rattle.rules.specs.definitions.Answers.{answer_without_place, unwritten, Follows, first_lent}
use Rattle.rules.specs.definitions.JudgedBy.{JudgedBy, AcceptedBy}
use Rattle.rules.specs.definitions.Demands.{PairDemands, outcome_by}
use Rattle.cost_files.specs.definitions.CostReading.{scan_cost_model}
use Rattle.transition.specs.Known.{automaton_in, KnownModel}
use Rattle.rules.specs.definitions.CertificateAt.{blocks_place}
use Rattle.limits.specs.TermsBy.{limits_by}
use Rattle.limits.specs.declared.Terms.{Terms}
use Rattle.rule_kind.specs.Kinds.{rule_of, pairs_by, KindStands}
use Rattle.rule_kind.specs.declared.Kind.{Kind}
use Rattle.rule_kind.specs.declared.Kind.TheVariants.{Plain, Costs, Strong}
use Rattle.answer.specs.declared.Answer.{Answer}
use Rattle.judgement.specs.declared.Accepted.{Accepted}
use Rattle.answer.specs.Answered.{answered, OutcomeIs, CallAnswered}

-- how a model file is scanned
abbrev pub scan_by : Kind → Terms → List ℕ → Scan
scan_by Plain terms = scan_whole (limits_by terms)
scan_by Costs terms = scan_cost_model (limits_by terms)
scan_by Strong terms = scan_whole (limits_by terms)

-- the model file is read as sound, and has what the rule asks of it
pub record ReadsBy (kind : Kind) (terms : Terms) (M : List ℕ) : Type 0 where
  pub end : ℕ
  pub reads : (pairs_by kind terms).read M ≡ model (model_at M) end
  pub stands : KindStands kind M

-- an accepted certificate: the blocks are the n bytes at a place of it, behind the mark of their record, and there is room for them
pub record AcceptedAt (kind : Kind) (terms : Terms) (M C : List ℕ) (room n count at : ℕ) : Type 0 where
  pub known : KnownModel M n count
  pub model : ReadsBy kind terms M
  pub judged : AcceptedBy (pairs_by kind terms) M C (take n (drop at C))
  pub stands : at ≡ blocks_place (rule_of kind M) (automaton_in M) C + 2
  pub inside : at + n ≤ length C
  pub fits : n ≤ room

-- what follows acceptance lends a block buffer with room for so many blocks, or none, and then there is room for every model's
abbrev pub RoomFor : Follows → (before : List (List ℕ)) → (room : ℕ) → Type 0
RoomFor follows before room = (N : Model) → length N.labels ≤ limits.states → (length (first_lent before) < follows.block_room N) ↔ (room < length N.labels)

-- a refusal, in document 01's terms, whatever would follow acceptance
pub record RefusedAs (kind : Kind) (terms : Terms) (M C : List ℕ) (room : ℕ) (r : Answer) : Type 0 where
  pub some : r.number ≡ 0 → ⊥
  pub refuses : (follows : Follows) (before : List (List ℕ)) → RoomFor follows before room → OutcomeIs (outcome_by (pairs_by kind terms) follows M C before) (M ∷ C ∷ []) before r

abbrev pub VerdictSays : (kind : Kind) (terms : Terms) (M C : List ℕ) (room : ℕ) → Result Accepted Answer → Type 0
VerdictSays kind terms M C room (Ok a) = AcceptedAt kind terms M C room a.states a.transitions a.blocks
VerdictSays kind terms M C room (Err r) = RefusedAs kind terms M C room r

-- document 01's number, file and place for each case: 0, 0 and 0 where the certificate is accepted
abbrev pub verdict_answer : Result Accepted Answer → rules.Answer
verdict_answer (Ok a) = answer_without_place 0
verdict_answer (Err r) = answered r

-- a call with a block buffer that writes nothing
abbrev pub judges_only : Follows
judges_only = record { block_room = λ N. length N.labels; outcome = λ N blocks before. unwritten (answer_without_place 0) before; late = [] }

pub record VerdictIs (kind : Kind) (terms : Terms) (M C : List ℕ) (room : ℕ) (r : Result Accepted Answer) : Type 0 where
  pub says : VerdictSays kind terms M C room r
  pub answers : (before : List ℕ) → length before ≡ room → verdict_answer r ≡ (outcome_by (pairs_by kind terms) judges_only M C (before ∷ [])).answer

-- the head of a model is good, or refused, whatever its pair is judged by
pub record HeadIs (M : List ℕ) (r : Result (Unit {0}) Answer) : Type 0 where
  pub good : IfOk r (λ _. (head_fault limits M).number ≡ 0)
  pub refused : IfErr r (λ (a : Answer). (kind : Kind) (terms : Terms) (C : List ℕ) (room : ℕ) → RefusedAs kind terms M C room a)

-- what a call on a pair of files promises: judged by these rules, with what follows acceptance, and with these demands
abbrev pub PairAnswered : (by : JudgedBy) (follows : Follows) (demands : PairDemands) (M C : List ℕ) (before after : List (List ℕ)) → Answer → Type 0
PairAnswered by follows demands M C before after r = CallAnswered (outcome_by by follows M C before) (M ∷ C ∷ []) after (demands M C before after) r
