-- Document 01: a certificate is judged record by record. 'A certificate is accepted for a model when judging the two answers 0.'
use Rattle.std.specs.Prelude.{ℕ, zero, suc, ◌+◌, ◌≡◌, List, [], ◌∷◌, ◌++◌, length}
use Rattle.bisimulation.specs.definitions.Choice.{if_less, if_same, if_true}
use Rattle.bisimulation.specs.definitions.Automaton.{Automaton}
use Rattle.rules.specs.definitions.Limits.{Limits}
use Rattle.rules.specs.definitions.Model.{automaton_of}
use Rattle.rules.specs.definitions.Reading.{Reading, model, no_model}
use Rattle.bisimulation.specs.definitions.Pairs.{Pairs, equal_labels}
use Rattle.rules.specs.definitions.Certificate.{FileRule, refutation_count, certificate_head_fault, refutation_fault, pairs_after, after_refutation, same_block, blocks_at, blocks_fault, flow_fault, after_flow}
use Rattle.rules.specs.definitions.Faults.{Fault, fault}

-- acceptance with its blocks, or a refusal with its fault, file (1 model, 2 certificate) and place
pub data Judgement : Type 0 where
  accepted : (blocks : List ℕ) → Judgement
  refused_in : Fault → (file place : ℕ) → Judgement

-- a record's fault refuses at its place; without one judging goes on
unfoldable pub refuse_record_at : Fault → ℕ → Judgement → Judgement
refuse_record_at f place next = if_same f.number 0 next (refused_in f 2 place)

-- a challenger transition and the defender that it asks
pub record Question : Type 0 where
  pub challenger : ℕ
  pub defender : ℕ

-- 'for each transition of s in file order', the transitions left counted from r on
unfoldable pub questions_of_pair : Automaton → (s t : ℕ) → (left r : ℕ) → List Question
questions_of_pair A s t zero r = []
questions_of_pair A s t (suc left) r =
    if_same (A.source r) s (record { challenger = r; defender = t } ∷ []) [] ++ questions_of_pair A s t left (r + 1)

-- 'each ordered pair (s,t) of different states in one block, ascending by s, then t'
unfoldable pub questions_of_state : Automaton → List ℕ → (s : ℕ) → (left t : ℕ) → List Question
questions_of_state A blocks s zero t = []
questions_of_state A blocks s (suc left) t =
    if_same s t [] (if_true (same_block blocks s t) (questions_of_pair A s t A.transitions 0) []) ++ questions_of_state A blocks s left (t + 1)

-- 'ascending by s', the states left counted from s on
unfoldable pub questions_from : Automaton → List ℕ → (left s : ℕ) → List Question
questions_from A blocks zero s = []
questions_from A blocks (suc left) s = questions_of_state A blocks s A.states 0 ++ questions_from A blocks left (s + 1)

-- the questions of all flow records, in their order
unfoldable pub questions : Automaton → List ℕ → List Question
questions A blocks = questions_from A blocks A.states 0

module _ (L : Limits) (rule : FileRule) (A : Automaton) (C : List ℕ) where
  -- 'Flow records follow', one for each question; 'after the last flow' 22, 'bytes left'
  unfoldable pub judge_flows : Pairs → (blocks : List ℕ) → List Question → (at : ℕ) → Judgement
  judge_flows R blocks [] at = if_less at (length C) (refused_in (fault 22) 2 at) (accepted blocks)
  judge_flows R blocks (x ∷ xs) at =
      refuse_record_at (flow_fault rule A C R x.challenger x.defender at) at
      (judge_flows R blocks xs (after_flow C at))

  -- 'blocks', then the flows of its questions
  unfoldable pub judge_blocks : Pairs → (at : ℕ) → Judgement
  judge_blocks R at =
      refuse_record_at (blocks_fault A C R at) at
      (judge_flows R (blocks_at A C at) (questions A (blocks_at A C at)) (at + 2 + A.states))

  -- the refutations left from a place on, each against the pairs left when it is read
  unfoldable pub judge_refutations : (left : ℕ) → Pairs → (at : ℕ) → Judgement
  judge_refutations zero R at = judge_blocks R at
  judge_refutations (suc left) R at =
      refuse_record_at (refutation_fault rule A C R at) at
      (judge_refutations left (pairs_after A C R at) (after_refutation rule A C at))

  -- 'head', refutations, 'blocks', flows: refusals 11 to 22, and what a further rule adds
  unfoldable pub judge_certificate : Judgement
  judge_certificate =
      refuse_record_at (certificate_head_fault L rule C) 0
      (judge_refutations (refutation_count C) (equal_labels A) 4)

-- a certificate judged for what reading the model gave
unfoldable pub judge_reading : Limits → FileRule → Reading → List ℕ → Judgement
judge_reading L rule (model M end) C = judge_certificate L rule (automaton_of M) C
judge_reading L rule (no_model f place) C = refused_in f 1 place

-- how the bytes of a model file are read; document 01's reader is `read_whole`
abbrev pub Reader : Type 0
Reader = List ℕ → Reading

-- judging: model bytes and certificate bytes
unfoldable pub judge : Limits → Reader → FileRule → (M C : List ℕ) → Judgement
judge L read rule M C = judge_reading L rule (read M) C

-- 'accepted for a model', with 'its accepted blocks': 'those of its blocks record'
pub record AcceptedFor (L : Limits) (read : Reader) (rule : FileRule) (M C blocks : List ℕ) : Type 0 where
  pub answers : judge L read rule M C ≡ accepted blocks

-- 'Two accepted certificates name the same blocks when the n bytes of their blocks records are the same'
unfoldable pub NameSameBlocks : List ℕ → List ℕ → Type 0
NameSameBlocks blocks other = blocks ≡ other
