-- Document 01, 'The merged model', and document 02, K3 and K10: a model and blocks give a model, whose bytes are the merged file.
use Rattle.std.specs.Prelude.{ℕ, zero, suc, ◌+◌, ◌*◌, List, [], ◌∷◌, ◌++◌, Bool, true, false, eqb, get_or}
use Rattle.bisimulation.specs.definitions.Choice.{if_same, if_true, both, all_below}
use Rattle.rules.specs.definitions.Model.{Entry, Transition, Model, weight_of, model_bytes}
use Rattle.rules.specs.definitions.LowestTerms.{in_lowest}
use Rattle.rules.specs.definitions.BlockCount.{block_count}

-- 'with its members' label': that of the block's first member
unfoldable pub label_of_block : (blocks labels : List ℕ) → ℕ → ℕ
label_of_block [] labels b = 0
label_of_block (x ∷ xs) [] b = 0
label_of_block (x ∷ xs) (l ∷ ls) b = if_same x b l (label_of_block xs ls b)

-- the labels of the blocks left, from b on
unfoldable pub block_labels : (blocks labels : List ℕ) → (left b : ℕ) → List ℕ
block_labels blocks labels zero b = []
block_labels blocks labels (suc left) b = label_of_block blocks labels b ∷ block_labels blocks labels left (b + 1)

-- 'its weights added up by target block'
unfoldable pub weight_to_block : List ℕ → List Entry → ℕ → ℕ
weight_to_block blocks [] b = 0
weight_to_block blocks (e ∷ es) b = if_same (get_or blocks e.state 0) b e.weight 0 + weight_to_block blocks es b

-- the entries that lead to the blocks left, from b on
unfoldable pub block_entries : List ℕ → List Entry → (left b : ℕ) → List Entry
block_entries blocks es zero b = []
block_entries blocks es (suc left) b =
    if_same (weight_to_block blocks es b) 0 [] (record { state = b; weight = weight_to_block blocks es b } ∷ [])
    ++ block_entries blocks es left (b + 1)

-- 'Each transition goes to its source's block, its weights added up by target block'
unfoldable pub added_up : List ℕ → Transition → Transition
added_up blocks t =
    record {
      source = get_or blocks t.source 0;
      action = t.action;
      denominator = t.denominator;
      entries = block_entries blocks t.entries (block_count blocks) 0;
    }

-- K10: 'Merged files are written in lowest terms, whatever 01 and K3 say of d'
unfoldable pub merged_transition : List ℕ → Transition → Transition
merged_transition blocks t = in_lowest (added_up blocks t)

-- the merged transitions of one block, by original place
unfoldable pub from_block : List ℕ → List Transition → ℕ → List Transition
from_block blocks [] b = []
from_block blocks (t ∷ ts) b =
    if_same (get_or blocks t.source 0) b (merged_transition blocks t ∷ []) [] ++ from_block blocks ts b

-- K3: 'two transitions of one block are the same when action and probabilities agree as fractions', p(c)·d' = p'(c)·d for each of the k
-- blocks c
unfoldable pub same_transition : ℕ → Transition → Transition → Bool
same_transition k t u =
    both (eqb t.action u.action)
    (all_below k (λ c. eqb (weight_of t.entries c * u.denominator) (weight_of u.entries c * t.denominator)))

-- the same as one of the transitions before it
unfoldable pub is_among : ℕ → Transition → List Transition → Bool
is_among k t [] = false
is_among k t (u ∷ us) = if_true (same_transition k t u) true (is_among k t us)

-- 'the first is kept': those that are the same as none before them
unfoldable pub distinct : ℕ → (before rest : List Transition) → List Transition
distinct k before [] = []
distinct k before (t ∷ ts) = if_true (is_among k t before) [] (t ∷ []) ++ distinct k (t ∷ before) ts

-- 'Order: by block, then by original place', for the blocks left, from b on
unfoldable pub by_block : List ℕ → List Transition → (left b : ℕ) → List Transition
by_block blocks ts zero b = []
by_block blocks ts (suc left) b = distinct (block_count blocks) [] (from_block blocks ts b) ++ by_block blocks ts left (b + 1)

-- 'one state for each block, with its members' label, and the same m'
unfoldable pub quotient : Model → List ℕ → Model
quotient M blocks =
    record {
      actions = M.actions;
      labels = block_labels blocks M.labels (block_count blocks) 0;
      transitions = by_block blocks M.transitions (block_count blocks) 0;
    }

-- the merged file
unfoldable pub merged_file : Model → List ℕ → List ℕ
merged_file M blocks = model_bytes (quotient M blocks)
