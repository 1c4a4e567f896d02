-- Laws of the count of blocks and of their labels, a turn at a time.
use Rattle.std.specs.Prelude.{ℕ, zero, suc, ◌+◌, ◌≤◌, ◌<◌, ◌≡◌, MatchOption, EachIndex, SomeIndex, List, [], ◌∷◌, ◌++◌, length, get_or, drop}
use Rattle.std.proofs.Common.{Option, None, Some, unwrap_or, sym, ◌∙◌, ap, ap₂, subst, drop_of_length-le, drop-cons, arith}
use Rattle.bisimulation.specs.definitions.Choice.{if_same}
use Rattle.bisimulation.proofs.argument.ChoiceLaws.{either_less}
use Rattle.writer.specs.Appends.{Appends}
use Rattle.writer.specs.AppendsLaws.{append-more}
use Rattle.rules.specs.definitions.BlockCount.{block_count}
use Rattle.rules.proofs.argument.NumberedBlocks.{block-below}
use Rattle.quotient.specs.definitions.Quotient.{label_of_block, block_labels}

-- a number above each block is at least their count
count-least : (blocks : List ℕ) (m : ℕ) → EachIndex blocks (λ (v : ℕ). get_or blocks v 0 + 1 ≤ m) → block_count blocks ≤ m
unfolding block_count
count-least [] m h = omega arith
count-least (b ∷ bs) m h =
    either_less (λ (c : ℕ). c ≤ m) b (block_count bs) (count-least bs m (λ v less. h (suc v) (omega arith))) (h 0 (omega arith))

-- the greatest of the numbers one more than a block, or 0 of none, is their count
pub count-greatest : (blocks : List ℕ) (most : Option ℕ) → MatchOption most (length blocks ≡ 0) (λ (m : ℕ). EachIndex blocks (λ (v : ℕ). get_or blocks v 0 + 1 ≤ m)) → MatchOption most (length blocks ≡ 0) (λ (m : ℕ). SomeIndex blocks (λ (v : ℕ). get_or blocks v 0 + 1 ≡ m)) → unwrap_or most 0 ≡ block_count blocks
count-greatest blocks None none none' = omega (arith, count-least blocks 0 (λ v less. absurd (omega arith)))
count-greatest blocks (Some m) each some =
    omega (arith, count-least blocks m each, block-below blocks some.0 some.1, some.2)

-- the label of a block, from a state on
pub label-turn : (blocks labels : List ℕ) (b v : ℕ) → v < length blocks → length labels ≡ length blocks → label_of_block (drop v blocks) (drop v labels) b ≡ if_same (get_or blocks v 0) b (get_or labels v 0) (label_of_block (drop (v + 1) blocks) (drop (v + 1) labels) b)
unfolding label_of_block
label-turn blocks labels b v h e =
    let one : suc v ≡ v + 1 = omega arith in
    ap₂ (λ (x y : List ℕ). label_of_block x y b) (drop-cons blocks v 0 h) (drop-cons labels v 0 (omega arith))
    ∙ ap (λ (k : ℕ). if_same (get_or blocks v 0) b (get_or labels v 0) (label_of_block (drop k blocks) (drop k labels) b)) one

pub label-end : (blocks labels : List ℕ) (b v : ℕ) → length blocks ≤ v → label_of_block (drop v blocks) (drop v labels) b ≡ 0
unfolding label_of_block
label-end blocks labels b v h = ap (λ (x : List ℕ). label_of_block x (drop v labels) b) (drop_of_length-le blocks h)

-- the labels of the blocks before b and of b
pub labels-more : (blocks labels : List ℕ) (left b : ℕ) → block_labels blocks labels (left + 1) b ≡ block_labels blocks labels left b ++ (label_of_block blocks labels (b + left) ∷ [])
unfolding block_labels
labels-more blocks labels zero b = let e : b ≡ b + 0 = omega arith in ap (λ (k : ℕ). label_of_block blocks labels k ∷ []) e
labels-more blocks labels (suc left) b =
    let e : b + 1 + left ≡ b + suc left = omega arith in
    let f : suc left + 1 ≡ suc (left + 1) = omega arith in
    ap (λ (k : ℕ). block_labels blocks labels k b) f
    ∙ ap (λ (l : List ℕ). label_of_block blocks labels b ∷ l) (labels-more blocks labels left (b + 1) ∙ ap (λ (k : ℕ). block_labels blocks labels left (b + 1) ++ (label_of_block blocks labels k ∷ [])) e)

-- one more label behind the labels before it
pub labels_append : (blocks labels : List ℕ) (b : ℕ) {at next end x : ℕ} {a before after : List ℕ} → Appends (block_labels blocks labels b 0) at a before next → Appends (x ∷ []) next before after end → x ≡ label_of_block blocks labels b → Appends (block_labels blocks labels (b + 1) 0) at a after end
labels_append blocks labels b {at} {next} {end} {x} {a} {before} {after} p q e =
    let zero_more : b ≡ 0 + b = omega arith in
    subst (λ (l : List ℕ). Appends l at a after end)
    (ap (λ (y : ℕ). block_labels blocks labels b 0 ++ (y ∷ [])) (e ∙ ap (label_of_block blocks labels) zero_more) ∙ sym (labels-more blocks labels b 0))
    (append-more p q)
