-- Document 02, K13: 'Supply a writer that reaches it for every n and T in the limits: all labels 0, m 1, T internal transitions from state 0 to itself
-- with 1/1. Its certificate has no refutations, one block, and 16 bytes for each flow, each with D 1.'
use Rattle.std.specs.Prelude.{ℕ, zero, suc, ◌+◌, ◌-◌, List, [], ◌∷◌, ◌++◌, replicate}
use Rattle.rules.specs.definitions.Model.{Transition, Model, model_bytes}
use Rattle.rules.specs.definitions.Encoding.{FlowRecord, Certificate, certificate_bytes}
use Rattle.rules.specs.definitions.PlainRule.{plain_rule}

-- a 0 for each of so many states
abbrev pub zeros : ℕ → List ℕ
zeros n = replicate n 0

-- internal, 'from state 0 to itself with 1/1'
abbrev pub self_loop : Transition
self_loop = record { source = 0; action = 0; denominator = 1; entries = record { state = 0; weight = 1 } ∷ [] }

-- 'all labels 0, m 1, T internal transitions'
unfoldable pub largest_model : (n T : ℕ) → Model
largest_model n T = record { actions = 1; labels = zeros n; transitions = replicate T self_loop }

-- '16 bytes for each flow, each with D 1': no k and one w, since t answers by staying where it is
abbrev pub stays : (t : ℕ) → FlowRecord
stays t = record { D = 1; ks = []; ws = record { v = t; u = 0; w = 1 } ∷ [] }

-- the flows of the pairs (0,t), for the states left from t on: each of the T transitions of state 0 asks t. No other state has a transition
unfoldable pub flows_against : (T left t : ℕ) → List FlowRecord
flows_against T zero t = []
flows_against T (suc left) t = replicate T (stays t) ++ flows_against T left (t + 1)

-- 'no refutations, one block'
unfoldable pub largest_certificate : (n T : ℕ) → Certificate
largest_certificate n T = record { refutations = []; blocks = zeros n; flows = flows_against T (n - 1) 1 }

-- the two files
abbrev pub largest_model_file : (n T : ℕ) → List ℕ
largest_model_file n T = model_bytes (largest_model n T)

abbrev pub largest_certificate_file : (n T : ℕ) → List ℕ
largest_certificate_file n T = certificate_bytes plain_rule.mark (largest_certificate n T)
