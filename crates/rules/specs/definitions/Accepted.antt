-- Document 01's rules of acceptance as plain propositions: no reading order, and no numbers of refusals.
use Rattle.std.specs.Prelude.{ℕ, ◌+◌, ◌*◌, ◌≤◌, ◌<◌, ◌^◌, ◌≡◌, ◌≢◌, ◌↔◌, true, List, [], ◌∷◌, length, get_or, ℤ}
use Rattle.std.specs.Int.Signed.{mag}
use Rattle.bisimulation.specs.definitions.Automaton.{Automaton}
use Rattle.bisimulation.specs.definitions.StepRule.{Flow}
use Rattle.bisimulation.specs.definitions.Pairs.{Pairs, equal_labels, removed}
use Rattle.rules.specs.definitions.Limits.{Limits}
use Rattle.rules.specs.definitions.Model.{Model, model_bytes, automaton_of}
use Rattle.rules.specs.definitions.SoundModel.{Each, SoundModel}
use Rattle.rules.specs.definitions.Judging.{Question}
use Rattle.rules.specs.definitions.Encoding.{Refutation, KEntry, WEntry, FlowRecord, Certificate, certificate_bytes, prices_of, flow_of}

-- what a step rule says of a certificate, as propositions
pub record RuleSays : Type 1 where
  -- how many prices a refutation by the challenger q has
  pub price_count : Automaton → ℕ → ℕ
  -- the price conditions
  pub refutes : Automaton → Pairs → (q t : ℕ) → (ℕ → ℤ) → Type 0
  -- an entry of a layer and a transition is in the question
  pub in_question : Automaton → (q t : ℕ) → (layer r : ℕ) → Type 0
  -- the equations
  pub equations : Automaton → (q t : ℕ) → Flow → Type 0

-- a number of a list strictly ascends, from a lowest value on
pub data Ascends {X : Type 0} (number : X → ℕ) : ℕ → List X → Type 0 where
  end : {lowest : ℕ} → Ascends number lowest []
  next : {lowest : ℕ} {x : X} {xs : List X} → lowest ≤ number x → Ascends number (number x + 1) xs → Ascends number lowest (x ∷ xs)

-- 'A refutation needs t different from the challenger's source s, and s, t still related. Its prices must satisfy ..'
pub record GoodRefutation (says : RuleSays) (A : Automaton) (R : Pairs) (x : Refutation) : Type 0 where
  pub transition : x.challenger < A.transitions
  pub state : x.defender < A.states
  pub different : x.defender ≢ A.source x.challenger
  pub related : R (A.source x.challenger) x.defender ≡ true
  pub whole : length x.prices ≡ says.price_count A x.challenger
  -- each price fits 4 bytes: mag z is z, or -z less 1 where z is negative
  pub fits : Each (λ z. mag z < 2 ^ 31) x.prices
  pub refutes : says.refutes A R x.challenger x.defender (prices_of x)

-- refutations in a row, each against the pairs left when it is read: from some pairs to the pairs left
pub data GoodRefutations (says : RuleSays) (A : Automaton) : Pairs → List Refutation → Pairs → Type 0 where
  done : {R : Pairs} → GoodRefutations says A R [] R
  refute : {R left : Pairs} {x : Refutation} {xs : List Refutation} → GoodRefutation says A R x → GoodRefutations says A (removed (A.source x.challenger) x.defender R) xs left → GoodRefutations says A R (x ∷ xs) left

-- 'Block numbers are given in order of first appearance from 0. Two states share a block exactly when they are still related.'
pub record GoodBlocks (A : Automaton) (R : Pairs) (blocks : List ℕ) : Type 0 where
  pub whole : length blocks ≡ A.states
  pub first_appearance : (v : ℕ) → v < A.states → (b : ℕ) → b < get_or blocks v 0 → (u : ℕ) × (u < v) × (get_or blocks u 0 ≡ b)
  pub as_related : (v u : ℕ) → v < A.states → u < A.states → (get_or blocks v 0 ≡ get_or blocks u 0) ↔ (R v u ≡ true)

-- 'k .. at least 1', in the question, and its fields fit
pub record GoodK (says : RuleSays) (A : Automaton) (q t : ℕ) (e : KEntry) : Type 0 where
  pub layer : e.layer < 256
  pub transition : e.transition < A.transitions
  pub allowed : says.in_question A q t e.layer e.transition
  pub some : 1 ≤ e.k
  pub fits : e.k < 2 ^ 32

-- 'w .. at least 1', of related states
pub record GoodW (A : Automaton) (R : Pairs) (e : WEntry) : Type 0 where
  pub from : e.v < A.states
  pub to : e.u < A.states
  pub related : R e.v e.u ≡ true
  pub some : 1 ≤ e.w
  pub fits : e.w < 2 ^ 32

-- (layer, transition) and (v, u) as one number: fields of two bytes and one
unfoldable pub k_key : KEntry → ℕ
k_key e = e.layer * 65536 + e.transition

unfoldable pub w_key : WEntry → ℕ
w_key e = e.v * 256 + e.u

-- a flow record meets its question: 'Entries strictly ascend by (layer, transition) and by (v,u)'
pub record GoodFlow (says : RuleSays) (A : Automaton) (R : Pairs) (x : Question) (f : FlowRecord) : Type 0 where
  pub some : 1 ≤ f.D
  pub fits : f.D < 2 ^ 32
  -- the count has 2 bytes
  pub k_few : length f.ks < 65536
  pub ks : Each (GoodK says A x.challenger x.defender) f.ks
  pub k_order : Ascends k_key 0 f.ks
  pub w_few : length f.ws < 65536
  pub ws : Each (GoodW A R) f.ws
  pub w_order : Ascends w_key 0 f.ws
  pub equations : says.equations A x.challenger x.defender (flow_of f)

-- an element stands somewhere in a list
pub data Among {X : Type 0} (x : X) : List X → Type 0 where
  here : {xs : List X} → Among x (x ∷ xs)
  there : {y : X} {xs : List X} → Among x xs → Among x (y ∷ xs)

-- 'each ordered pair (s,t) of different states in one block, .. and for each transition of s': the transition asks t
pub record Asks (A : Automaton) (blocks : List ℕ) (x : Question) : Type 0 where
  pub transition : x.challenger < A.transitions
  pub first : A.source x.challenger < A.states
  pub second : x.defender < A.states
  pub different : A.source x.challenger ≢ x.defender
  pub together : get_or blocks (A.source x.challenger) 0 ≡ get_or blocks x.defender 0

-- 'ascending by s, then t, and .. in file order': (s, t, transition) as one number, since t is a state and the transition one of all
unfoldable pub question_key : Automaton → Question → ℕ
question_key A x = (A.source x.challenger * A.states + x.defender) * A.transitions + x.challenger

-- the questions that the flow records meet: those and no others, each once, in that order
pub record IsQuestions (A : Automaton) (blocks : List ℕ) (xs : List Question) : Type 0 where
  pub only : (x : Question) → Among x xs → Asks A blocks x
  pub all : (x : Question) → Asks A blocks x → Among x xs
  pub order : Ascends (question_key A) 0 xs

-- 'Place alone says which question a record meets': one flow for each question, in their order
pub data GoodFlows (says : RuleSays) (A : Automaton) (R : Pairs) : List Question → List FlowRecord → Type 0 where
  done : GoodFlows says A R [] []
  flow : {x : Question} {f : FlowRecord} {xs : List Question} {fs : List FlowRecord} → GoodFlow says A R x f → GoodFlows says A R xs fs → GoodFlows says A R (x ∷ xs) (f ∷ fs)

-- a certificate keeps every rule for an automaton
pub record KeepsRules (L : Limits) (says : RuleSays) (A : Automaton) (K : Certificate) : Type 0 where
  pub left : Pairs
  pub few : length K.refutations ≤ L.refutations
  pub refutations : GoodRefutations says A (equal_labels A) K.refutations left
  pub blocks : GoodBlocks A left K.blocks
  pub asked : List Question
  pub is_asked : IsQuestions A K.blocks asked
  pub flows : GoodFlows says A left asked K.flows

-- the certificate bytes are the encoding of a certificate that keeps every rule for an automaton and names these blocks
pub record Kept (L : Limits) (says : RuleSays) (mark : ℕ) (A : Automaton) (C blocks : List ℕ) : Type 0 where
  pub certificate : Certificate
  pub encoded : C ≡ certificate_bytes mark certificate
  pub keeps : KeepsRules L says A certificate
  pub named : certificate.blocks ≡ blocks

-- which bytes are the file of a model; document 01's are `FileOf`
abbrev pub IsFile : Type 1
IsFile = List ℕ → Model → Type 0

-- the bytes are those of a sound model
pub record FileOf (L : Limits) (bytes : List ℕ) (M : Model) : Type 0 where
  pub sound : SoundModel L M
  pub encoded : bytes ≡ model_bytes M

-- the product's second demand: a certificate is accepted if, and only if, it keeps every rule of document 01 on a sound model. The model
-- bytes are the file of a model, and the certificate bytes those of a certificate that keeps every rule for its automaton
pub record Accepted (L : Limits) (is_file : IsFile) (says : RuleSays) (mark : ℕ) (bytes C blocks : List ℕ) : Type 0 where
  pub M : Model
  pub file : is_file bytes M
  pub kept : Kept L says mark (automaton_of M) C blocks
