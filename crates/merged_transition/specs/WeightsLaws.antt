-- Laws of the weights by block and of their entries.
use Prim.Native.Nat.{ℕ, zero, suc, ◌+◌, ◌*◌, ◌/◌, ◌≤◌, ◌<◌}
use Rattle.std.specs.Prelude.{◌≡◌, ◌⊎◌, length, set, replicate}
use Rattle.std.proofs.Math.Path.{refl, sym, ap, ap₂, subst}
use Rattle.std.proofs.Common.{◌∙◌, div-le_self}
use Rattle.std.proofs.Math.Logic.{inl, inr}
use mathlib.Core.List.{List, [], ◌∷◌, ◌++◌, map, append_assoc, append-nil, map-append}
use Rattle.std.proofs.Math.ListN.{get_or, length-set, length-append}
use Rattle.std.proofs.lemmas.List.{length-map, length-replicate, get_or-replicate}
use Rattle.std.proofs.Math.Seq.{get_or-set_same, get_or-set_other}
use Rattle.std.proofs.Math.Decide.{ℕ_discrete, dec_lt}
use native.Mathlib.Omega.{arith}
use Rattle.bisimulation.specs.definitions.Choice.{if_same}
use Rattle.bisimulation.proofs.argument.ChoiceLaws.{same, not_same, either_same}
use Rattle.numbers.specs.definitions.Divisor.{Divides, divisor, divisor_of}
use Rattle.numbers.proofs.argument.DivisorLaws.{DividesEach, divides-zero, divisor-greatest, divisor_of-greatest, divides-each-other, one-divides}
use Rattle.rules.proofs.argument.TermsLaws.{weights-divided}
use Rattle.rules.proofs.argument.SoundModelLaws.{each_map, each_append, each-parts}
use Rattle.rules.specs.definitions.Bytes.{byte_at, two_at, two_bytes}
use Rattle.rules.specs.definitions.Limits.{limits}
use Rattle.rules.specs.definitions.Model.{Entry, entries_bytes}
use Rattle.rules.specs.definitions.LowestTerms.{divided_entry}
use Rattle.rules.specs.definitions.Reading.{states_of, entry_count_at, entries_at, place_of}
use Rattle.rules.proofs.argument.ReadBack.{entries_bytes-length}
use Rattle.quotient.specs.definitions.Quotient.{weight_to_block, block_entries}
use Rattle.rules.specs.definitions.SoundModel.{Each, sum_over}
use Rattle.transition_record.specs.declared.Fields.{Fields}
use Rattle.transition.specs.declared.Entry as read
use Rattle.transition.specs.Known.{Known, KnownTransition, FieldsOf, entries_of}
use Rattle.transition.specs.KnownLaws.{known-transition, entries-known}
use Rattle.transition.specs.Entries.{EntryTaken}
use Rattle.writer.specs.Appends.{Appends}
use Rattle.writer.specs.AppendsLaws.{append-none, append-more, entries-append}
use Rattle.merged_transition.specs.MergedTransition.{NoWeights}
use Rattle.merged_transition.specs.Weights.{weight_in, entry_of, weight_entries, weights_by_block, CanAdd, WeightsOf, CanDivide, CanWriteEntry, WroteEntry, CanWriteEntries, WroteEntries}

-- with 1 there is no divisor but 1
pub divisor-with-one : (x : ℕ) → (divisor 1 x ≡ 1) × (divisor x 1 ≡ 1)
divisor-with-one x = (
  divides-each-other (divisor-greatest 1 x).first (one-divides _),
  divides-each-other (divisor-greatest x 1).second (one-divides _),
)

-- no weights
pub no-weights : NoWeights (replicate limits.states 0)
no-weights =
    record { size = length-replicate {A = ℕ} limits.states 0; none = λ b h. get_or-replicate {A = ℕ} limits.states b 0 0 h }

-- a weight to a block is at most the whole, and none leads past the blocks of the states
pub weight-light : (blocks : List ℕ) (es : List Entry) (b : ℕ) → weight_to_block blocks es b ≤ sum_over (λ (e : Entry). e.weight) es
unfolding weight_to_block sum_over
weight-light blocks [] b = omega arith
weight-light blocks (e ∷ es) b =
    let here : if_same (get_or blocks e.state 0) b e.weight 0 ≤ e.weight = either_same (λ (x : ℕ). x ≤ e.weight) _ _ (omega arith) (omega arith) in
    omega (arith, here, weight-light blocks es b)

pub weight-past : (blocks : List ℕ) (n k : ℕ) → ((v : ℕ) → v < n → get_or blocks v 0 < k) → (es : List Entry) → Each (λ (e : Entry). e.state < n) es → (b : ℕ) → k ≤ b → weight_to_block blocks es b ≡ 0
unfolding weight_to_block Each
weight-past blocks n k below [] known b h = refl
weight-past blocks n k below (e ∷ es) known b h =
    let there = below e.state known.0 in
    let here : 0 ≡ if_same (get_or blocks e.state 0) b e.weight 0 = not_same e.weight (λ q. absurd (omega arith)) refl in
    omega (arith, here, weight-past blocks n k below es known.1 b h)

-- the entries by weights that are the same
pub entries-same : (f g : ℕ → ℕ) (k : ℕ) → ((b : ℕ) → b < k → f b ≡ g b) → weight_entries f k ≡ weight_entries g k
unfolding weight_entries
entries-same f g zero h = refl
entries-same f g (suc b) h =
    ap₂ (λ (l : List Entry) (w : ℕ). l ++ entry_of w b) (entries-same f g b (λ i less. h i (omega arith))) (h b (omega arith))

-- those by the weights of a transition are the merged ones
entries-last : (blocks : List ℕ) (es : List Entry) (left b : ℕ) → block_entries blocks es (suc left) b ≡ block_entries blocks es left b ++ entry_of (weight_to_block blocks es (b + left)) (b + left)
unfolding block_entries
entries-last blocks es zero b =
    let e : b ≡ b + 0 = omega arith in
    append-nil (entry_of (weight_to_block blocks es b) b) ∙ ap (λ (i : ℕ). entry_of (weight_to_block blocks es i) i) e
entries-last blocks es (suc left) b =
    let e : b + 1 + left ≡ b + suc left = omega arith in
    let first = entry_of (weight_to_block blocks es b) b in
    ap (λ (l : List Entry). first ++ l) (entries-last blocks es left (b + 1))
    ∙ ap (λ (i : ℕ). first ++ (block_entries blocks es left (b + 1) ++ entry_of (weight_to_block blocks es i) i)) e
    ∙ sym (append_assoc first (block_entries blocks es left (b + 1)) (entry_of (weight_to_block blocks es (b + suc left)) (b + suc left)))

pub entries-merged : (blocks : List ℕ) (es : List Entry) (k : ℕ) → weight_entries (weight_to_block blocks es) k ≡ block_entries blocks es k 0
unfolding weight_entries block_entries
entries-merged blocks es zero = refl
entries-merged blocks es (suc b) =
    let e : b ≡ 0 + b = omega arith in
    ap (λ (l : List Entry). l ++ entry_of (weight_to_block blocks es b) b) (entries-merged blocks es b)
    ∙ ap (λ (i : ℕ). block_entries blocks es b 0 ++ entry_of (weight_to_block blocks es i) i) e
    ∙ sym (entries-last blocks es b 0)

-- a block has one entry at most
entry-few : (weight b : ℕ) → length (entry_of weight b) ≤ 1
entry-few weight b = either_same (λ (l : List Entry). length l ≤ 1) _ _ (omega arith) (omega arith)

pub entries-few : (f : ℕ → ℕ) (k : ℕ) → length (weight_entries f k) ≤ k
unfolding weight_entries
entries-few f zero = omega arith
entries-few f (suc b) =
    omega (arith, length-append (weight_entries f b) (entry_of (f b) b), entries-few f b, entry-few (f b) b)

pub entries-grow : (f : ℕ → ℕ) (b k : ℕ) → b < k → length (weight_entries f b) + length (entry_of (f b) b) ≤ length (weight_entries f k)
unfolding weight_entries
entries-grow f b zero h = absurd (omega arith)
entries-grow f b (suc k) h = go (ℕ_discrete b k) (entries-grow f b k)
  where
    go : Dec (b ≡ k) → (b < k → length (weight_entries f b) + length (entry_of (f b) b) ≤ length (weight_entries f k)) → length (weight_entries f b) + length (entry_of (f b) b) ≤ length (weight_entries f k ++ entry_of (f k) k)
    go (yes q) ih = subst (λ (i : ℕ). length (weight_entries f b) + length (entry_of (f b) b) ≤ length (weight_entries f i ++ entry_of (f i) i)) q (omega (arith, length-append (weight_entries f b) (entry_of (f b) b)))
    go (no q) ih = omega (arith, length-append (weight_entries f k) (entry_of (f k) k), ih (omega arith))

-- weights that differ at one block at most differ in one entry at most
one-differs : (f g : ℕ → ℕ) (c : ℕ) → ((b : ℕ) → (b ≡ c → ⊥) → f b ≡ g b) → (k : ℕ) → length (weight_entries f k) ≤ length (weight_entries g k) + 1
unfolding weight_entries
one-differs f g c h zero = omega arith
one-differs f g c h (suc k) = go (ℕ_discrete k c) (one-differs f g c h k)
  where
    go : Dec (k ≡ c) → length (weight_entries f k) ≤ length (weight_entries g k) + 1 → length (weight_entries f k ++ entry_of (f k) k) ≤ length (weight_entries g k ++ entry_of (g k) k) + 1
    go (yes q) ih =
        let below : length (weight_entries f k) ≡ length (weight_entries g k) = ap length (entries-same f g k (λ b less. h b (λ e. absurd (omega arith)))) in
        omega (arith, below, length-append (weight_entries f k) (entry_of (f k) k), length-append (weight_entries g k) (entry_of (g k) k), entry-few (f k) k)
    go (no q) ih =
        let here : length (entry_of (f k) k) ≡ length (entry_of (g k) k) = ap (λ (w : ℕ). length (entry_of w k)) (h k q) in
        omega (arith, here, ih, length-append (weight_entries f k) (entry_of (f k) k), length-append (weight_entries g k) (entry_of (g k) k))

entry-none : {weight : ℕ} (b : ℕ) → weight ≡ 0 → [] ≡ entry_of weight b
entry-none b e = same _ e refl

entry-some : {weight : ℕ} (b : ℕ) → (weight ≡ 0 → ⊥) → (record { state = b; weight = weight } ∷ []) ≡ entry_of weight b
entry-some b n = not_same _ n refl

no-entries : (f : ℕ → ℕ) → ((b : ℕ) → f b ≡ 0) → (k : ℕ) → [] ≡ weight_entries f k
unfolding weight_entries
no-entries f h zero = refl
no-entries f h (suc b) = ap₂ (λ (xs ys : List Entry). xs ++ ys) (no-entries f h b) (entry-none b (h b))

-- each of them takes one of the transition's entries at least
pub entries-shorter : (s blocks : List ℕ) (k left at : ℕ) → length (weight_entries (weight_to_block blocks (entries_at s left at)) k) ≤ left
unfolding entries_at weight_to_block
entries-shorter s blocks k zero at =
    let none : 0 ≡ length (weight_entries (weight_to_block blocks []) k) = ap length (no-entries (weight_to_block blocks []) (λ b. refl) k) in
    omega (arith, none)
entries-shorter s blocks k (suc left) at =
    omega (arith, entries-shorter s blocks k left (at + 3), one-differs (weight_to_block blocks (entries_at s (suc left) at)) (weight_to_block blocks (entries_at s left (at + 3))) (get_or blocks (byte_at s at) 0) other k)
  where
    other : (b : ℕ) → (b ≡ get_or blocks (byte_at s at) 0 → ⊥) → weight_to_block blocks (entries_at s (suc left) at) b ≡ weight_to_block blocks (entries_at s left (at + 3)) b
    other b o =
        let here : 0 ≡ if_same (get_or blocks (byte_at s at) 0) b (two_at s (at + 1)) 0 = not_same (two_at s (at + 1)) (λ q. o (sym q)) refl in
        omega (arith, here)

-- where no more entries come, no more weights do
none_left : (f : ℕ → ℕ) (b k : ℕ) → b ≤ k → length (weight_entries f k) ≤ length (weight_entries f b) → (weight_entries f b ≡ weight_entries f k) × ((i : ℕ) → b ≤ i → i < k → f i ≡ 0)
unfolding weight_entries
none_left f b zero le few = let e : b ≡ 0 = omega arith in (ap (weight_entries f) e, λ i from less. absurd (omega arith))
none_left f b (suc k) le few = go (ℕ_discrete b (suc k)) (ℕ_discrete b k) (ℕ_discrete (f k) 0) (none_left f b k)
  where
    Left : ℕ → Type 0
    Left n = (weight_entries f b ≡ weight_entries f n) × ((i : ℕ) → b ≤ i → i < n → f i ≡ 0)

    sizes : length (weight_entries f (suc k)) ≡ length (weight_entries f k) + length (entry_of (f k) k)
    sizes = unfold weight_entries in length-append (weight_entries f k) (entry_of (f k) k)

    least : Dec (b ≡ k) → b ≤ k → length (weight_entries f b) ≤ length (weight_entries f k)
    least (yes e) h = omega (arith, ap (λ (i : ℕ). length (weight_entries f i)) e)
    least (no n) h = omega (arith, entries-grow f b k (omega arith))

    go : Dec (b ≡ suc k) → Dec (b ≡ k) → Dec (f k ≡ 0) → (b ≤ k → length (weight_entries f k) ≤ length (weight_entries f b) → Left k) → Left (suc k)
    go (yes e) d z ih = (ap (weight_entries f) e, λ i from less. absurd (omega arith))
    go (no n) d (no z) ih = absurd (omega (arith, sizes, ap length (entry-some k z), least d (omega arith)))
    go (no n) d (yes z) ih =
        let rest = ih (omega arith) (omega (arith, sizes)) in (
          unfold weight_entries in rest.0 ∙ sym (append-nil (weight_entries f k)) ∙ ap (λ (l : List Entry). weight_entries f k ++ l) (entry-none k z),
          λ i from less. at i from less (ℕ_discrete i k) rest.1,
        )
      where
        at : (i : ℕ) → b ≤ i → i < suc k → Dec (i ≡ k) → ((i : ℕ) → b ≤ i → i < k → f i ≡ 0) → f i ≡ 0
        at i from less (yes e) before = ap f e ∙ z
        at i from less (no o) before = before i from (omega arith)

-- a block with another weight changes the count of entries by its own entry
one-length : (weight b : ℕ) → length (entry_of weight b) ≡ if_same weight 0 0 1
one-length weight b = go (ℕ_discrete weight 0)
  where
    go : Dec (weight ≡ 0) → length (entry_of weight b) ≡ if_same weight 0 0 1
    go (yes q) = same 1 q (sym (ap length (entry-none b q)))
    go (no q) = not_same 0 q (sym (ap length (entry-some b q)))

entries-set : (weights : List ℕ) (b total n : ℕ) → b < length weights → b < n → length (weight_entries (weight_in (set weights b total)) n) + length (entry_of (weight_in weights b) b) ≡ length (weight_entries (weight_in weights) n) + length (entry_of total b)
unfolding weight_entries
entries-set weights b total zero inside less = absurd (omega arith)
entries-set weights b total (suc n) inside less = go (ℕ_discrete b n) (entries-set weights b total n inside)
  where
    f : ℕ → ℕ
    f = weight_in weights

    g : ℕ → ℕ
    g = weight_in (set weights b total)

    other : (i : ℕ) → (i ≡ b → ⊥) → g i ≡ f i
    other i n = get_or-set_other weights b i total 0 n

    go : Dec (b ≡ n) → (b < n → length (weight_entries g n) + length (entry_of (f b) b) ≡ length (weight_entries f n) + length (entry_of total b)) → length (weight_entries g n ++ entry_of (g n) n) + length (entry_of (f b) b) ≡ length (weight_entries f n ++ entry_of (f n) n) + length (entry_of total b)
    go (yes e) ih =
        let below : length (weight_entries g n) ≡ length (weight_entries f n) = ap length (entries-same g f n (λ i l. other i (λ q. absurd (omega arith)))) in
        let here : g n ≡ total = ap g (sym e) ∙ get_or-set_same weights b total 0 inside in
        omega (arith, below, length-append (weight_entries g n) (entry_of (g n) n), length-append (weight_entries f n) (entry_of (f n) n), ap (λ (i : ℕ). length (entry_of (f i) i)) e, ap (λ (w : ℕ). length (entry_of w n)) here, ap (λ (i : ℕ). length (entry_of total i)) e)
    go (no q) ih =
        let last : g n ≡ f n = other n (λ e. q (sym e)) in
        omega (arith, ih (omega arith), length-append (weight_entries g n) (entry_of (g n) n), length-append (weight_entries f n) (entry_of (f n) n), ap (λ (w : ℕ). length (entry_of w n)) last)

-- blocks without a weight have no entries
pub entries-beyond : (f : ℕ → ℕ) (k more : ℕ) → ((i : ℕ) → k ≤ i → i < more + k → f i ≡ 0) → weight_entries f (more + k) ≡ weight_entries f k
unfolding weight_entries
entries-beyond f k zero h = let e : 0 + k ≡ k = omega arith in ap (weight_entries f) e
entries-beyond f k (suc more) h =
    let e : suc more + k ≡ suc (more + k) = omega arith in
    ap (weight_entries f) e
    ∙ ap (λ (l : List Entry). weight_entries f (more + k) ++ l) (sym (entry-none (more + k) (h (more + k) (omega arith) (omega arith))))
    ∙ append-nil (weight_entries f (more + k))
    ∙ entries-beyond f k more (λ i from less. h i from (omega arith))

-- the entries of a transition that are left, each of a state with a block
pub record Walking (s blocks : List ℕ) (left at : ℕ) : Type 0 where
  pub inside : at + 3 * left ≤ length s
  pub states : Each (λ (e : Entry). e.state < length blocks) (entries_at s left at)
  pub below : (v : ℕ) → v < length blocks → get_or blocks v 0 < limits.states

walking-all : {s places blocks : List ℕ} {r : ℕ} → KnownTransition s places r → length blocks ≡ states_of s → ((v : ℕ) → v < states_of s → get_or blocks v 0 < limits.states) → Walking s blocks (entry_count_at s (place_of s r)) (place_of s r + 7)
walking-all {s} {r = r} t whole below =
    let k = entries-known t in
    record {
      inside = k.inside;
      states = subst (λ (n : ℕ). Each (λ (e : Entry). e.state < n) (entries_of s r)) (sym whole) k.states;
      below = λ v h. below v (omega (arith, h, whole));
    }

pub walking_start : {s places blocks : List ℕ} {r : ℕ} → KnownTransition s places r → length blocks ≡ states_of s → ((v : ℕ) → v < states_of s → get_or blocks v 0 < limits.states) → {f : Fields} → FieldsOf s r f → {left : ℕ} → left ≡ f.count → Walking s blocks left f.entries.at
walking_start {s} {blocks = blocks} t whole below {f} x e =
    subst (λ (n : ℕ). Walking s blocks n f.entries.at) (sym (e ∙ x.count)) (subst (Walking s blocks _) (sym x.entries) (walking-all t whole below))

module _ {s blocks : List ℕ} where
  pub walking-state : (left : ℕ) {at : ℕ} {e : read.Entry} → Walking s blocks left at → 0 < left → EntryTaken s at e → e.state < length blocks
  unfolding Each entries_at
  walking-state zero h some t = absurd (omega arith)
  walking-state (suc left) h some t = omega (arith, h.states.0, t.state)

  pub walking-block : (left : ℕ) {at : ℕ} {e : read.Entry} {b : ℕ} → Walking s blocks left at → 0 < left → EntryTaken s at e → b ≡ get_or blocks e.state 0 → b < limits.states
  walking-block left {e = e} h some t q = omega (arith, h.below e.state (walking-state left h some t), q)

  pub walking-turn : (left : ℕ) {rest at : ℕ} {e : read.Entry} → Walking s blocks left at → left ≡ rest + 1 → EntryTaken s at e → Walking s blocks rest e.next.at
  unfolding Each entries_at
  walking-turn zero h some t = absurd (omega arith)
  walking-turn (suc left) {rest} {at} {e} h some t =
      let one : left ≡ rest = omega arith in
      subst (λ (k : ℕ). Walking s blocks k e.next.at) one
      (subst (Walking s blocks left) (sym t.next) (record { inside = omega (arith, h.inside); states = h.states.1; below = h.below }))

-- what is known before each entry of a transition: the weights so far and the entries left make up the whole
pub record Adding (s blocks : List ℕ) (all : List Entry) (weights : List ℕ) (count left at : ℕ) : Type 0 where
  pub counted : count ≡ length (weight_entries (weight_in weights) limits.states)
  pub walking : Walking s blocks left at
  pub size : length weights ≡ limits.states
  pub makes_up : (b : ℕ) → b < limits.states → weight_in weights b + weight_to_block blocks (entries_at s left at) b ≡ weight_to_block blocks all b
  pub light : (b : ℕ) → weight_to_block blocks all b ≤ 65535

pub adding-start : {s places blocks weights : List ℕ} {n count r : ℕ} → Known s n count places → CanAdd s count r blocks weights → {f : Fields} → FieldsOf s r f → {left : ℕ} → left ≡ f.count → Adding s blocks (entries_of s r) weights 0 left f.entries.at
adding-start {s} {places} {blocks} {weights} {r = r} known a {f} t e =
    let k = entries-known (known-transition known a.less) in
    subst (λ (n : ℕ). Adding s blocks (entries_of s r) weights 0 n f.entries.at) (sym (e ∙ t.count))
    (subst (λ (p : ℕ). Adding s blocks (entries_of s r) weights 0 (entry_count_at s (place_of s r)) p) (sym t.entries)
    (record {
      counted = ap length (no-entries (λ b. 0) (λ b. refl) limits.states ∙ sym (entries-same (weight_in weights) (λ b. 0) limits.states (λ b h. a.none.none b h)));
      walking = walking-all (known-transition known a.less) a.whole a.below;
      size = a.none.size;
      makes_up = λ b h. omega (arith, a.none.none b h);
      light = λ b. omega (arith, weight-light blocks (entries_of s r) b, k.whole, k.light);
    }))

module _ {s blocks : List ℕ} {all : List Entry} where
  one-turn : (left at : ℕ) (weights : List ℕ) (count more : ℕ) (e : read.Entry) (b total : ℕ) → Adding s blocks all weights count (suc left) at → EntryTaken s at e → b ≡ get_or blocks e.state 0 → total ≡ weight_in weights b + e.weight → more + if_same (weight_in weights b) 0 0 1 ≡ count + if_same total 0 0 1 → Adding s blocks all (set weights b total) more left (at + 3)
  unfolding Each entries_at weight_to_block
  one-turn left at weights count more e b total h t q u v =
      record {
        counted = omega (arith, h.counted, v, entries-set weights b total limits.states (omega (arith, h.size, known)) known, one-length (weight_in weights b) b, one-length total b);
        walking = record { inside = omega (arith, h.walking.inside); states = h.walking.states.1; below = h.walking.below };
        size = length-set weights b total ∙ h.size;
        makes_up = λ i less. go i less (ℕ_discrete i b);
        light = h.light;
      }
    where
      known : b < limits.states
      known = walking-block (suc left) h.walking (omega arith) t q

      there : b ≡ get_or blocks (byte_at s at) 0
      there = q ∙ ap (λ (v : ℕ). get_or blocks v 0) t.state

      go : (i : ℕ) → i < limits.states → Dec (i ≡ b) → weight_in (set weights b total) i + weight_to_block blocks (entries_at s left (at + 3)) i ≡ weight_to_block blocks all i
      go i less (yes p) =
          let here : two_at s (at + 1) ≡ if_same (get_or blocks (byte_at s at) 0) i (two_at s (at + 1)) 0 = same 0 (sym there ∙ sym p) refl in
          let new : weight_in (set weights b total) i ≡ total = ap (weight_in (set weights b total)) p ∙ get_or-set_same weights b total 0 (omega (arith, less, p, h.size)) in
          let old : weight_in weights i ≡ weight_in weights b = ap (weight_in weights) p in
          omega (arith, h.makes_up i less, here, new, old, u, t.weight)
      go i less (no p) =
          let here : 0 ≡ if_same (get_or blocks (byte_at s at) 0) i (two_at s (at + 1)) 0 = not_same _ (λ d. p (sym d ∙ sym there)) refl in
          omega (arith, h.makes_up i less, here, get_or-set_other weights b i total 0 p)

  pub adding-turn : (left : ℕ) {rest at : ℕ} {weights : List ℕ} {count more : ℕ} {e : read.Entry} {b total : ℕ} → Adding s blocks all weights count left at → left ≡ rest + 1 → EntryTaken s at e → b ≡ get_or blocks e.state 0 → total ≡ weight_in weights b + e.weight → more + if_same (weight_in weights b) 0 0 1 ≡ count + if_same total 0 0 1 → Adding s blocks all (set weights b total) more rest e.next.at
  adding-turn zero h some t q u v = absurd (omega arith)
  adding-turn (suc left) {rest} {at} {weights} {count} {more} {e} {b} {total} h some t q u v =
      let one : left ≡ rest = omega arith in
      subst (λ (k : ℕ). Adding s blocks all (set weights b total) more k e.next.at) one
      (subst (λ (p : ℕ). Adding s blocks all (set weights b total) more left p) (sym t.next)
      (one-turn left at weights count more e b total h t q u v))

  pub adding-end : (left : ℕ) {at : ℕ} {weights : List ℕ} {count : ℕ} → Adding s blocks all weights count left at → left ≤ 0 → WeightsOf blocks all weights count
  unfolding entries_at weight_to_block
  adding-end zero h none = record { size = h.size; counted = h.counted; held = λ b less. omega (arith, h.makes_up b less) }
  adding-end (suc left) h none = absurd (omega arith)

  -- no more blocks have a weight than there are
  pub adding-few : {left at : ℕ} {weights : List ℕ} {count : ℕ} → Adding s blocks all weights count left at → count ≤ limits.states
  adding-few {weights = weights} h = omega (arith, h.counted, entries-few (weight_in weights) limits.states)

-- entries with their weights divided have as many bytes
pub divided-length : (g : ℕ) (es : List Entry) → length (entries_bytes (map (divided_entry g) es)) ≡ 3 * length es
divided-length g es = omega (arith, entries_bytes-length (map (divided_entry g) es), length-map es (divided_entry g))

-- the common divisor of the weights of the first k blocks, and that of the weights of the blocks that entries lead to
abbrev pub common_below : (ℕ → ℕ) → ℕ → ℕ
common_below f k = divisor_of 0 (map (λ (e : Entry). e.weight) (weight_entries f k))

module _ (f : ℕ → ℕ) (g : ℕ) where
  abbrev DividesWeights : List Entry → Type 0
  DividesWeights = Each (λ (e : Entry). Divides g e.weight)

  -- a divisor of each block's weight is one of each entry's, and the other way round
  divides-entries : (k : ℕ) → ((b : ℕ) → b < k → Divides g (f b)) → DividesWeights (weight_entries f k)
  unfolding weight_entries Each
  divides-entries zero h = tt
  divides-entries (suc k) h =
      each_append _ (weight_entries f k) (entry_of (f k) k) (divides-entries k (λ b less. h b (omega arith)))
      (either_same DividesWeights (f k) 0 {x = []} {y = record { state = k; weight = f k } ∷ []} tt (h k (omega arith), tt))

  entries-divided : (k : ℕ) → DividesWeights (weight_entries f k) → (b : ℕ) → b < k → Divides g (f b)
  unfolding weight_entries Each
  entries-divided zero h b less = absurd (omega arith)
  entries-divided (suc k) h b less = go (ℕ_discrete b k) (ℕ_discrete (f b) 0) (entries-divided k parts.0 b)
    where
      parts : DividesWeights (weight_entries f k) × DividesWeights (entry_of (f k) k)
      parts = each-parts _ (weight_entries f k) (entry_of (f k) k) h

      go : Dec (b ≡ k) → Dec (f b ≡ 0) → (b < k → Divides g (f b)) → Divides g (f b)
      go (no n) z ih = ih (omega arith)
      go (yes e) (yes z) ih = subst (Divides g) (sym z) (divides-zero g)
      go (yes e) (no z) ih =
          let here = subst (λ (i : ℕ). DividesWeights (entry_of (f i) i)) (sym e) parts.1 in
          (subst DividesWeights (sym (entry-some b z)) here).0

-- all weights by block of the entries
module _ (blocks weights : List ℕ) where
  abbrev at_block : Entry → ℕ
  at_block e = weight_in weights (get_or blocks e.state 0)

  by-block-divided : (g : ℕ) (es : List Entry) → DividesEach g (weights_by_block blocks weights es) → Each (λ (e : Entry). Divides g (at_block e)) es
  unfolding weights_by_block DividesEach Each
  by-block-divided g [] h = tt
  by-block-divided g (e ∷ es) h = (h.0, by-block-divided g es h.1)

  divides-by-block : (g : ℕ) (es : List Entry) → Each (λ (e : Entry). Divides g (at_block e)) es → DividesEach g (weights_by_block blocks weights es)
  unfolding weights_by_block DividesEach Each
  divides-by-block g [] h = tt
  divides-by-block g (e ∷ es) h = (h.0, divides-by-block g es h.1)

  -- a block that has a weight is one that an entry leads to
  led-to : (g : ℕ) (es : List Entry) → Each (λ (e : Entry). Divides g (at_block e)) es → (b : ℕ) → (weight_to_block blocks es b ≡ 0) ⊎ Divides g (weight_in weights b)
  unfolding weight_to_block Each
  led-to g [] h b = inl refl
  led-to g (e ∷ es) h b = go (ℕ_discrete (get_or blocks e.state 0) b) (led-to g es h.1 b)
    where
      go : Dec (get_or blocks e.state 0 ≡ b) → (weight_to_block blocks es b ≡ 0) ⊎ Divides g (weight_in weights b) → (if_same (get_or blocks e.state 0) b e.weight 0 + weight_to_block blocks es b ≡ 0) ⊎ Divides g (weight_in weights b)
      go (yes q) ih = inr (subst (λ (i : ℕ). Divides g (weight_in weights i)) q h.0)
      go (no n) (inr d) = inr d
      go (no n) (inl z) = inl (omega (arith, z, not_same {z = 0} e.weight n refl))

  -- so the divisors are one
  pub common-by-block : (es : List Entry) (k : ℕ) → ((b : ℕ) → b < k → weight_in weights b ≡ weight_to_block blocks es b) → Each (λ (e : Entry). get_or blocks e.state 0 < k) es → divisor_of 0 (weights_by_block blocks weights es) ≡ common_below (weight_in weights) k
  common-by-block es k held below =
      let one = divisor_of-greatest 0 (weights_by_block blocks weights es) in
      let other = divisor_of-greatest 0 (map (λ (e : Entry). e.weight) (weight_entries (weight_in weights) k)) in
      let g = divisor_of 0 (weights_by_block blocks weights es) in
      let h = common_below (weight_in weights) k in
      divides-each-other
      (other.greatest g (divides-zero g) ((weights-divided g _).0 (divides-entries (weight_in weights) g k (λ b less. weighted g b (held b less) (led-to g es (by-block-divided g es one.each) b)))))
      (one.greatest h (divides-zero h) (divides-by-block h es (each_map _ _ (λ e less. entries-divided (weight_in weights) h k ((weights-divided h _).1 other.each) (get_or blocks e.state 0) less) es below)))
    where
      weighted : (g b : ℕ) → weight_in weights b ≡ weight_to_block blocks es b → (weight_to_block blocks es b ≡ 0) ⊎ Divides g (weight_in weights b) → Divides g (weight_in weights b)
      weighted g b e (inl z) = subst (Divides g) (sym (e ∙ z)) (divides-zero g)
      weighted g b e (inr d) = d

-- where the divisor is 1 it stays
one-stays : (xs : List ℕ) → divisor_of 1 xs ≡ 1
unfolding divisor_of
one-stays [] = refl
one-stays (x ∷ xs) = ap (λ (g : ℕ). divisor_of g xs) (divisor-with-one x).0 ∙ one-stays xs

-- what is known before each entry whose block's weight is divided
pub record Dividing (s blocks weights : List ℕ) (all : List Entry) (g left at : ℕ) : Type 0 where
  pub walking : Walking s blocks left at
  pub size : length weights ≡ limits.states
  pub whole : divisor_of g (weights_by_block blocks weights (entries_at s left at)) ≡ divisor_of 0 (weights_by_block blocks weights all)

pub dividing-start : {s places blocks weights : List ℕ} {n count r : ℕ} → Known s n count places → CanDivide s count r blocks weights → {f : Fields} → FieldsOf s r f → {left : ℕ} → left ≡ f.count → Dividing s blocks weights (entries_of s r) 0 left f.entries.at
dividing-start {s} {blocks = blocks} {weights = weights} known a {f} t e =
    record {
      walking = walking_start (known-transition known a.less) a.whole a.below t e;
      size = a.size;
      whole = ap₂ (λ (n p : ℕ). divisor_of 0 (weights_by_block blocks weights (entries_at s n p))) (e ∙ t.count) t.entries;
    }

module _ {s blocks weights : List ℕ} {all : List Entry} where
  pub dividing-turn : (left : ℕ) {rest g at : ℕ} {e : read.Entry} {b x : ℕ} → Dividing s blocks weights all g left at → left ≡ rest + 1 → EntryTaken s at e → b ≡ get_or blocks e.state 0 → x ≡ divisor g (weight_in weights b) → Dividing s blocks weights all x rest e.next.at
  unfolding entries_at weights_by_block divisor_of
  dividing-turn zero h some t q u = absurd (omega arith)
  dividing-turn (suc left) {rest} {g} {at} {e} {b} {x} h some t q u =
      let one : rest ≡ left = omega arith in
      record {
        walking = walking-turn (suc left) h.walking some t;
        size = h.size;
        whole =
            ap₂ (λ (n p : ℕ). divisor_of x (map (λ (y : Entry). weight_in weights (get_or blocks y.state 0)) (entries_at s n p))) one t.next
            ∙ ap (λ (y : ℕ). divisor_of y (map (λ (z : Entry). weight_in weights (get_or blocks z.state 0)) (entries_at s left (at + 3)))) (u ∙ ap (λ (i : ℕ). divisor g (weight_in weights i)) (q ∙ ap (λ (v : ℕ). get_or blocks v 0) t.state))
            ∙ h.whole;
      }

  pub dividing-end : (left : ℕ) {g at : ℕ} → Dividing s blocks weights all g left at → left ≤ 0 → g ≡ divisor_of 0 (weights_by_block blocks weights all)
  unfolding entries_at weights_by_block divisor_of
  dividing-end zero h none = h.whole
  dividing-end (suc left) h none = absurd (omega arith)

  -- 1 is the divisor with all that are left
  pub dividing-one : {left g at : ℕ} → Dividing s blocks weights all g left at → g ≡ 1 → 1 ≡ divisor_of 0 (weights_by_block blocks weights all)
  dividing-one {left} {g} {at} h one =
      sym (one-stays (weights_by_block blocks weights (entries_at s left at))) ∙ ap (λ (y : ℕ). divisor_of y (weights_by_block blocks weights (entries_at s left at))) (sym one) ∙ h.whole

-- the entry of one block
module _ {weights : List ℕ} {b g : ℕ} {out : List ℕ} {at : ℕ} (h : CanWriteEntry weights b g out at) where
  pub entry-room : (weight_in weights b ≡ 0 → ⊥) → at + 3 ≤ length out
  entry-room n = omega (arith, h.room, ap length (entry-some b n))

  pub wrote_none : weight_in weights b ≡ 0 → WroteEntry g b weights weights at out out at
  unfolding entries_bytes
  wrote_none e =
      record {
        appended = subst (λ (es : List Entry). Appends (entries_bytes (map (divided_entry g) es)) at out out at) (entry-none b e) (append-none out at (omega (arith, h.room)));
        size = h.size;
        gone = e;
        kept = λ i n. refl;
      }

  pub divided-light : weight_in weights b / g < 65536
  divided-light = omega (arith, h.light, div-le_self (weight_in weights b) g)

  pub wrote-some : {written : List ℕ} {next w : ℕ} → (weight_in weights b ≡ 0 → ⊥) → w ≡ weight_in weights b / g → Appends (b ∷ two_bytes w) at out written next → WroteEntry g b weights (set weights b 0) at out written next
  unfolding entries_bytes two_bytes divided_entry
  wrote-some {written} {next} n e a =
      record {
        appended = subst (λ (es : List Entry). Appends (entries_bytes (map (divided_entry g) es)) at out written next) (entry-some b n) (subst (λ (x : ℕ). Appends (b ∷ two_bytes x) at out written next) e a);
        size = length-set weights b 0 ∙ h.size;
        gone = get_or-set_same weights b 0 0 (omega (arith, h.size, h.inside));
        kept = λ i o. get_or-set_other weights b i 0 0 o;
      }

-- what is known before each block that is written: the entries of those before it stand
pub record Writing (before : List ℕ) (k count g : ℕ) (out : List ℕ) (at : ℕ) (weights written : List ℕ) (b next : ℕ) : Type 0 where
  pub asked : CanWriteEntries before k count g out at
  pub among : b ≤ k
  pub done : WroteEntries g b before weights at out written next

module _ {before : List ℕ} {k count g : ℕ} {out : List ℕ} {at : ℕ} where
  pub writing_start : CanWriteEntries before k count g out at → Writing before k count g out at before out 0 at
  unfolding weight_entries entries_bytes
  writing_start h =
      record {
        asked = h;
        among = omega arith;
        done = record { appended = append-none out at (omega (arith, h.room)); size = h.table.size; gone = λ i less. absurd (omega arith); kept = λ i le. refl };
      }

  pub writing-asks : {weights written : List ℕ} {b next : ℕ} → Writing before k count g out at weights written b next → b < k → CanWriteEntry weights b g written next
  writing-asks {weights} {written} {b} {next} h less =
      let here : weight_in weights b ≡ weight_in before b = h.done.kept b (omega arith) in
      let entry : length (entry_of (weight_in weights b) b) ≡ length (entry_of (weight_in before b) b) = ap (λ (w : ℕ). length (entry_of w b)) here in
      record {
        size = h.done.size;
        inside = omega (arith, less, h.asked.table.few);
        some = h.asked.some;
        light = omega (arith, here, h.asked.light b less);
        room = omega (arith, entry, h.asked.room, h.done.appended.place, h.done.appended.size, divided-length g (weight_entries (weight_in before) b), entries-grow (weight_in before) b k less);
      }

  pub writing-turn : {weights written after more : List ℕ} {b next past : ℕ} → Writing before k count g out at weights written b next → b < k → WroteEntry g b weights after next written more past → Writing before k count g out at after more (b + 1) past
  unfolding weight_entries
  writing-turn {weights} {written} {after} {more} {b} {next} {past} h less w =
      record {
        asked = h.asked;
        among = omega arith;
        done =
            record {
              appended = subst (λ (l : List ℕ). Appends l at out more past) bytes (append-more h.done.appended w.appended);
              size = w.size;
              gone = λ i l. go i l (ℕ_discrete i b);
              kept = λ i le. w.kept i (λ e. absurd (omega arith)) ∙ h.done.kept i (omega arith);
            };
      }
    where
      one : suc b ≡ b + 1
      one = omega arith

      D : List Entry → List Entry
      D = map (divided_entry g)

      bytes : entries_bytes (D (weight_entries (weight_in before) b)) ++ entries_bytes (D (entry_of (weight_in weights b) b)) ≡ entries_bytes (D (weight_entries (weight_in before) (b + 1)))
      bytes =
          sym (entries-append (D (weight_entries (weight_in before) b)) (D (entry_of (weight_in weights b) b)))
          ∙ ap entries_bytes (sym (map-append (divided_entry g) (weight_entries (weight_in before) b) (entry_of (weight_in weights b) b)))
          ∙ ap (λ (x : ℕ). entries_bytes (D (weight_entries (weight_in before) b ++ entry_of x b))) (h.done.kept b (omega arith))
          ∙ ap (λ (i : ℕ). entries_bytes (D (weight_entries (weight_in before) i))) one

      go : (i : ℕ) → i < b + 1 → Dec (i ≡ b) → weight_in after i ≡ 0
      go i l (yes q) = ap (weight_in after) q ∙ w.gone
      go i l (no q) = w.kept i q ∙ h.done.gone i (omega arith)

  pub writing-end : {weights written : List ℕ} {b next : ℕ} → Writing before k count g out at weights written b next → k ≤ b → WroteEntries g k before weights at out written next
  writing-end {weights} {written} {b} {next} h past =
      let e : b ≡ k = omega (arith, h.among, past) in
      subst (λ (i : ℕ). WroteEntries g i before weights at out written next) e h.done

  -- or as many entries as there are
  pub writing-full : {weights written : List ℕ} {b next end : ℕ} → Writing before k count g out at weights written b next → end ≡ at + 3 * count → next ≡ end → WroteEntries g k before weights at out written next
  writing-full {weights} {written} {b} {next} h e full =
      let f = weight_in before in
      let left = none_left f b k h.among (omega (arith, e, full, h.asked.counted, h.done.appended.place, divided-length g (weight_entries f b))) in
      record {
        appended = subst (λ (es : List Entry). Appends (entries_bytes (map (divided_entry g) es)) at out written next) left.0 h.done.appended;
        size = h.done.size;
        gone = λ i less. go i less (dec_lt i b) (left.1 i);
        kept = λ i from. h.done.kept i (omega (arith, from, h.among));
      }
    where
      go : (i : ℕ) → i < k → Dec (i < b) → (b ≤ i → i < k → weight_in before i ≡ 0) → weight_in weights i ≡ 0
      go i less (yes l) none = h.done.gone i l
      go i less (no n) none = h.done.kept i (omega arith) ∙ none (omega arith) less
