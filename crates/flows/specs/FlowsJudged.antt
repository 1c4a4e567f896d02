-- What judging hands up, in document 01's terms, and what it says of the flows.
use Rattle.std.specs.Prelude.{ℕ, ◌+◌, ◌≤◌, ◌<◌, ◌≡◌, List, [], ◌∷◌, length, take, drop, Result, Ok, Err}
use Rattle.std.proofs.Math.Path.{refl}
use Rattle.std.proofs.Common.{◌∙◌, ap}
use Rattle.bisimulation.specs.definitions.Pairs.{Pairs}
use Rattle.rules.specs.definitions.Limits.{limits}
use Rattle.rules.specs.definitions.Certificate.{FileRule, same_block}
use Rattle.rules.specs.definitions.Answers.{Answer, refusal_in, answer_without_place, file_of, judgement_answer}
use Rattle.fault.specs.Faults.{fault_of}
use Rattle.fault.specs.declared.Fault.{Fault}
use Rattle.rules.specs.definitions.Judging.{Judgement, accepted, refused_in, questions, judge_flows}
use Rattle.pairs.specs.Rows.{HoldsPairs}
use Rattle.transition.specs.Known.{automaton_in}

-- document 01's judgement for each case: the n blocks at a place; a refusal in file 2
abbrev pub judgement_of : List ℕ → ℕ → Result ℕ Fault → Judgement
judgement_of C n (Ok at) = accepted (take n (drop at C))
judgement_of C n (Err f) = refused_in (fault_of f) 2 f.place

-- its number, file and place, for a certificate of so many bytes: 0, 0 and 0 where it is accepted
abbrev pub judged_answer : ℕ → Result ℕ Fault → Answer
judged_answer size (Ok at) = answer_without_place 0
judged_answer size (Err f) = refusal_in (fault_of f) 2 f.place size

-- the blocks stand at this place; they, or the place of the refusal, lie in the file
abbrev pub InFile : List ℕ → ℕ → ℕ → Result ℕ Fault → Type 0
InFile C n blocks (Ok at) = (at ≡ blocks) × (at + n ≤ length C)
InFile C n blocks (Err f) = f.place ≤ length C

-- the answer is this judgement, of a model file and this certificate file; accepted blocks stand at this place
pub record Judges (C : List ℕ) (n blocks : ℕ) (judgement : Judgement) (r : Result ℕ Fault) : Type 0 where
  pub answer : judgement_of C n r ≡ judgement
  pub says : (M : List ℕ) → judged_answer (length C) r ≡ judgement_answer (M ∷ C ∷ []) judgement
  pub inside : InFile C n blocks r

-- what the judgement is, the answer says
pub judges : {C : List ℕ} {n blocks : ℕ} {judgement : Judgement} (r : Result ℕ Fault) → judgement_of C n r ≡ judgement → InFile C n blocks r → Judges C n blocks judgement r
judges {C} {n} r e inside = record { answer = e; says = λ M. cases M r ∙ ap (judgement_answer (M ∷ C ∷ [])) e; inside = inside }
  where
    cases : (M : List ℕ) (x : Result ℕ Fault) → judged_answer (length C) x ≡ judgement_answer (M ∷ C ∷ []) (judgement_of C n x)
    cases M (Ok at) = unfold judgement_answer in refl
    cases M (Err f) = unfold judgement_answer file_of in refl

-- the n blocks at a place are those of the pairs that the rows hold
pub record BlocksAgree (C : List ℕ) (n : ℕ) (rows : List ℕ) (blocks : ℕ) : Type 0 where
  pub shared : (R : Pairs) → HoldsPairs n R rows → (v u : ℕ) → v < n → u < n → same_block (take n (drop blocks C)) v u ≡ R v u

-- the flows after n blocks, judged for the pairs that the rows hold
pub record JudgesFlows (rule : FileRule) (s C : List ℕ) (n : ℕ) (rows : List ℕ) (blocks : ℕ) (r : Result ℕ Fault) : Type 0 where
  pub answer : (R : Pairs) → HoldsPairs n R rows → judgement_of C n r ≡ judge_flows limits rule (automaton_in s) C R (take n (drop blocks C)) (questions (automaton_in s) (take n (drop blocks C))) (blocks + n)
  pub inside : InFile C n blocks r
