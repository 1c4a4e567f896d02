-- Numbered blocks: how many there are, that each number below is one, and that the blocks of an accepted certificate are numbered.
use Rattle.std.specs.Prelude.{ℕ, zero, suc, ◌+◌, ◌≤◌, ◌<◌, ◌≡◌, refl, List, [], ◌∷◌, length, get_or}
use Rattle.std.proofs.Common.{subst, arith}
use Rattle.std.proofs.Math.Decide.{dec_lt}
use Rattle.bisimulation.specs.definitions.Choice.{if_less}
use Rattle.bisimulation.proofs.argument.ChoiceLaws.{less, not_less}
use Rattle.rules.specs.definitions.Model.{Model}
use Rattle.rules.specs.definitions.SoundModel.{Bytes}
use Rattle.rules.specs.definitions.BlockCount.{block_count}
use Rattle.rules.specs.definitions.Demand3.{HoldsModel}
use Rattle.rules.specs.definitions.JudgedBy.{AcceptedBy}
use Rattle.rules.proofs.argument.AnyRule.{PairRules, pairs_of}
use Rattle.rules.proofs.argument.LargestBlocks.{Numbered}
use Rattle.rules.proofs.argument.Demand3Holds.{facts-of}

-- a property of each side where the test goes that way is one of the choice
which_less : {X : Type 0} (P : X → Type 0) (a b : ℕ) {x y : X} → (a < b → P x) → (b ≤ a → P y) → P (if_less a b x y)
which_less P a b {x} {y} p q = go (dec_lt a b)
  where
    go : Dec (a < b) → P (if_less a b x y)
    go (yes e) = subst P (less y e refl) (p e)
    go (no n) = subst P (not_less x (omega arith) refl) (q (omega arith))

-- block numbers are below the number of blocks, and the highest is one less
pub block-below : (blocks : List ℕ) (v : ℕ) → v < length blocks → get_or blocks v 0 < block_count blocks
unfolding block_count
block-below [] v l = absurd (omega arith)
block-below (x ∷ xs) zero l = which_less (λ c. x < c) x (block_count xs) (λ h. h) (λ h. omega arith)
block-below (x ∷ xs) (suc v) l =
    let h = block-below xs v (omega arith) in
    which_less (λ c. get_or xs v 0 < c) x (block_count xs) (λ k. h) (λ k. omega arith)

highest-block : (blocks : List ℕ) → 1 ≤ length blocks → (v : ℕ) × (v < length blocks) × (get_or blocks v 0 + 1 ≡ block_count blocks)
unfolding block_count
highest-block [] l = absurd (omega arith)
highest-block (x ∷ []) l = (0, omega arith, which_less (λ c. x + 1 ≡ c) x 0 (λ h. absurd (omega arith)) (λ h. refl))
highest-block (x ∷ y ∷ xs) l =
    let h = highest-block (y ∷ xs) (omega arith) in
    which_less (λ c. (v : ℕ) × (v < length (x ∷ y ∷ xs)) × (get_or (x ∷ y ∷ xs) v 0 + 1 ≡ c)) x (block_count (y ∷ xs))
    (λ k. (suc h.0, omega (arith, h.1), h.2))
    (λ k. (0, omega arith, refl))

-- numbered by first appearance, a state's block is no higher than the state, and every number below the count is a block
module _ (blocks : List ℕ) (numbered : Numbered (length blocks) blocks) where
  block-most : (k v : ℕ) → v < k → v < length blocks → get_or blocks v 0 ≤ v
  block-most zero v h l = absurd (omega arith)
  block-most (suc k) v h l = go (dec_lt v (get_or blocks v 0)) (λ u i. block-most k u (omega arith) (omega arith))
    where
      go : Dec (v < get_or blocks v 0) → ((u : ℕ) → u < v → get_or blocks u 0 ≤ u) → get_or blocks v 0 ≤ v
      go (no n) before = omega arith
      go (yes i) before =
          let a = numbered.appears v l v i in
          absurd (omega (arith, a.1, a.2, before a.0 a.1))

  module _ (some : 1 ≤ length blocks) where
    pub count-some : 1 ≤ block_count blocks
    count-some = omega (arith, (highest-block blocks some).2)

    pub count_most : block_count blocks ≤ length blocks
    count_most =
        let h = highest-block blocks some in
        omega (arith, h.1, h.2, block-most (suc h.0) h.0 (omega arith) h.1)

    pub each-block : (b : ℕ) → b < block_count blocks → (v : ℕ) × (v < length blocks) × (get_or blocks v 0 ≡ b)
    each-block b l = go (highest-block blocks some)
      where
        go : ((v : ℕ) × (v < length blocks) × (get_or blocks v 0 + 1 ≡ block_count blocks)) → (v : ℕ) × (v < length blocks) × (get_or blocks v 0 ≡ b)
        go h = which (dec_lt b (get_or blocks h.0 0))
          where
            which : Dec (b < get_or blocks h.0 0) → (v : ℕ) × (v < length blocks) × (get_or blocks v 0 ≡ b)
            which (yes i) =
                let a = numbered.appears h.0 h.1 b i in
                (a.0, omega (arith, a.1, h.1), a.2)
            which (no n) = (h.0, h.1, omega (arith, h.2))

-- blocks of a model, numbered by first appearance
pub record NumberedBlocks (M : Model) (blocks : List ℕ) : Type 0 where
  pub whole : length blocks ≡ length M.labels
  pub numbered : Numbered (length M.labels) blocks

-- the blocks of an accepted certificate are numbered by first appearance, one a state
pub accepted-numbered : (by : PairRules) (bytes C blocks : List ℕ) → Bytes bytes → Bytes C → AcceptedBy (pairs_of by) bytes C blocks → {N : Model} → HoldsModel by.models.read bytes N → NumberedBlocks N blocks
accepted-numbered by bytes C blocks b c a {N} h =
    let facts = facts-of by bytes C blocks b c a N h in
    record { whole = facts.whole; numbered = facts.numbered }
