-- What the call that compares two states promises, in the definitions of document 02, K1.
use Rattle.std.specs.Prelude.{ℕ, ◌≡◌, List, [], length, get_or, Result, Ok, Err}
use Rattle.bisimulation.specs.definitions.Choice.{if_same}
use Rattle.rules.specs.definitions.JudgedBy.{plain_pairs}
use Rattle.rules.specs.definitions.Answers.{answer_without_place}
use Rattle.rules.specs.definitions.Demands.{Demands}
use Rattle.joined.specs.definitions.AlikeAnswer.{Named, parts_number, tests_parts, AlikeNumber, SaysAlike}
use Rattle.fault.specs.declared.Refusal.{Refusal}
use Rattle.fault.specs.Faults.{number_of}
use Rattle.answer.specs.declared.Answer.{Answer}
use Rattle.answer.specs.Answered.{Says}
use Rattle.judgement.specs.Verdicts.{PairAnswered}
use Rattle.alike.specs.declared.AlikeAnswer.{AlikeAnswer}

-- the numbers that the call is given: the first's state count, and a state of each part
abbrev pub named : (first_count first_state second_state : ℕ) → Named
named first_count first_state second_state = record { first_count = first_count; first_state = first_state; second_state = second_state }

-- the number of a refusal, 0 where there is none
abbrev pub number_in : Result (Unit {0}) Refusal → ℕ
number_in (Ok x) = 0
number_in (Err r) = number_of r

-- an answer that says nothing of the states, or no
abbrev pub says_no : Answer → AlikeAnswer
says_no a = record { answer = a; alike = 0 }

-- what accepted blocks come to: 27, or yes or no by whether the two states share one
pub record Compares (blocks : List ℕ) (x : Named) (r : AlikeAnswer) : Type 0 where
  pub answer : Says (answer_without_place (parts_number (length blocks) x)) 0 r.answer
  pub parted : (parts_number (length blocks) x ≡ 0 → ⊥) → r.alike ≡ 0
  pub said : parts_number (length blocks) x ≡ 0 → r.alike ≡ if_same (get_or blocks x.first_state 0) (get_or blocks x.second_state 0) 1 0

-- it answers as a call that judges and lends no buffer, with the demands of such a one, and says yes or no as the request asks
pub record AlikeAnswered (model certificate : List ℕ) (x : Named) (r : AlikeAnswer) : Type 0 where
  pub answers : PairAnswered plain_pairs (tests_parts x) (Demands plain_pairs (tests_parts x) AlikeNumber) model certificate [] [] r.answer
  pub says : SaysAlike plain_pairs x model certificate r.answer.number r.alike
