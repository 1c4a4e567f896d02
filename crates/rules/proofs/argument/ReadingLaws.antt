-- Laws of reading a model: what the code and the theorems use of the definitions in `Reading`.
use Rattle.std.specs.Prelude.{ℕ, zero, suc, ◌+◌, ◌-◌, ◌≤◌, ◌<◌, ◌⊎◌, ◌≡◌, refl, List, Bool, true, false, cond, eqb, length}
use Rattle.std.proofs.Common.{inl, inr, ⊎_elim, sym, ◌∙◌, ap, subst, eqb-true, arith, add-one}
use Rattle.std.proofs.lemmas.Bool.{eqb-false}
use Rattle.std.proofs.Math.Decide.{ℕ_discrete, dec_le}
use Rattle.bisimulation.specs.definitions.Choice.{if_less, if_same, unless_less, unless_same}
use Rattle.bisimulation.proofs.argument.ChoiceLaws.{via, less, not_less, same, not_same, either_less, either_same}
use Rattle.rules.specs.definitions.Limits.{Terms, any_terms, lowest_terms, Limits, with_terms}
use Rattle.rules.specs.definitions.Bytes.{byte_at, two_at}
use Rattle.rules.specs.definitions.Model.{Transition}
use Rattle.rules.specs.definitions.Faults.{Fault, fault, no_fault, Passes, first_of, model_record, open_fault}
use Rattle.rules.proofs.argument.FaultLaws.{Otherwise, Told, told-fault, none_first, either_first, model-refuses, opened, either-open, pass-if_less, pass-unless_less}
use Rattle.rules.specs.definitions.Reading.{states_of, actions_of, count_of, range_fault, head_fault, label_fault, labels_fault, source_at, action_at, denominator_at, entry_count_at, after_transition, fixed_fault, fixed_fault_at, entries_fault, transition_at, terms_fault, ReadNumber, transition_fault, Scan, sound, refused, refuse_at, scan_transitions, scan_model, refuse_bytes_left, scan_whole, place_of, first_not_below}

one_less : (left : ℕ) → left ≡ suc left - 1
one_less left = omega arith

-- each recursion where nothing is left, and one turn of it where something is
pub label_fault-end : (L : Limits) (s : List ℕ) (left at : ℕ) → left ≤ 0 → label_fault L s left at ≡ no_fault
unfolding label_fault
label_fault-end L s zero at h = refl
label_fault-end L s (suc left) at h = absurd (omega arith)

pub entries_fault-end : (s : List ℕ) (n d left at lowest total : ℕ) → left ≤ 0 → entries_fault s n d left at lowest total ≡ unless_same total d (fault 7) no_fault
unfolding entries_fault
entries_fault-end s n d zero at lowest total h = refl
entries_fault-end s n d (suc left) at lowest total h = absurd (omega arith)

pub scan_transitions-end : (L : Limits) (s : List ℕ) (n m count left last entries at : ℕ) → left ≤ 0 → scan_transitions L s n m count left last entries at ≡ sound n m count at
unfolding scan_transitions
scan_transitions-end L s n m count zero last entries at h = refl
scan_transitions-end L s n m count (suc left) last entries at h = absurd (omega arith)

pub first_not_below-end : (s : List ℕ) (state left r : ℕ) → left ≤ 0 → first_not_below s state left r ≡ r
unfolding first_not_below
first_not_below-end s state zero r h = refl
first_not_below-end s state (suc left) r h = absurd (omega arith)

pub label_fault-turn : (L : Limits) (s : List ℕ) (left at : ℕ) → 0 < left → label_fault L s left at ≡ if_less L.label (byte_at s at) (fault 4) (label_fault L s (left - 1) (at + 1))
unfolding label_fault
label_fault-turn L s zero at h = absurd (omega arith)
label_fault-turn L s (suc left) at h = ap (λ (k : ℕ). if_less L.label (byte_at s at) (fault 4) (label_fault L s k (at + 1))) (one_less left)

pub entries_fault-turn : (s : List ℕ) (n d left at lowest total : ℕ) → 0 < left → entries_fault s n d left at lowest total ≡ if_less (byte_at s at) lowest (fault 6) (unless_less (byte_at s at) n (fault 6) (unless_less 0 (two_at s (at + 1)) (fault 6) (entries_fault s n d (left - 1) (at + 3) (byte_at s at + 1) (total + two_at s (at + 1)))))
unfolding entries_fault
entries_fault-turn s n d zero at lowest total h = absurd (omega arith)
entries_fault-turn s n d (suc left) at lowest total h =
    ap
    (λ (k : ℕ).
    if_less (byte_at s at) lowest (fault 6)
    (unless_less (byte_at s at) n (fault 6)
    (unless_less 0 (two_at s (at + 1)) (fault 6)
    (entries_fault s n d k (at + 3) (byte_at s at + 1) (total + two_at s (at + 1))))))
    (one_less left)

pub scan_transitions-turn : (L : Limits) (s : List ℕ) (n m count left last entries at : ℕ) → 0 < left → scan_transitions L s n m count left last entries at ≡ refuse_at (transition_fault L s n m last entries at) at (scan_transitions L s n m count (left - 1) (source_at s at) (entries + entry_count_at s at) (after_transition s at))
unfolding scan_transitions
scan_transitions-turn L s n m count zero last entries at h = absurd (omega arith)
scan_transitions-turn L s n m count (suc left) last entries at h =
    ap
    (λ (k : ℕ).
    refuse_at (transition_fault L s n m last entries at) at
    (scan_transitions L s n m count k (source_at s at) (entries + entry_count_at s at) (after_transition s at)))
    (one_less left)

pub first_not_below-turn : (s : List ℕ) (state left r : ℕ) → 0 < left → first_not_below s state left r ≡ if_less (source_at s (place_of s r)) state (first_not_below s state (left - 1) (r + 1)) r
unfolding first_not_below
first_not_below-turn s state zero r h = absurd (omega arith)
first_not_below-turn s state (suc left) r h =
    ap (λ (k : ℕ). if_less (source_at s (place_of s r)) state (first_not_below s state k (r + 1)) r) (one_less left)

pub place_of-next : (s : List ℕ) (r : ℕ) → place_of s (r + 1) ≡ after_transition s (place_of s r)
unfolding place_of
place_of-next s r = rw add-one

-- what a transition record without fault tells
pub record PassedTransition (L : Limits) (s : List ℕ) (n m last entries at : ℕ) : Type 0 where
  pub mark : two_at s at ≡ 0x5452
  pub fixed : at + 7 ≤ length s
  pub ascends : last ≤ source_at s at
  pub source : source_at s at < n
  pub action : action_at s at < m
  pub denominator : 0 < denominator_at s at
  pub some : 0 < entry_count_at s at
  pub most : entry_count_at s at ≤ n
  pub few : entries + entry_count_at s at ≤ L.entries
  pub whole : after_transition s at ≤ length s
  pub shares : Passes (entries_fault s n (denominator_at s at) (entry_count_at s at) (at + 7) 0 0)
  pub terms : Passes (terms_fault L.terms (transition_at s at))

-- a record's fault x refuses at its place, or the next record follows
pub refuse-stops : {x : Fault} (f : Fault) (place : ℕ) (next : Scan) → x ≡ f → (x.number ≡ 0 → ⊥) → refused x place ≡ refuse_at f place next
unfolding refuse_at
refuse-stops f place next e h = not_same next (λ q. h (ap (λ (g : Fault). g.number) e ∙ q)) (ap (λ (g : Fault). refused g place) e)

pub refuse-passes : {x f : Fault} (place : ℕ) {z next : Scan} → x ≡ f → x.number ≡ 0 → z ≡ next → z ≡ refuse_at f place next
unfolding refuse_at
refuse-passes {f = f} place e h q = same (refused f place) (ap (λ (g : Fault). g.number) (sym e) ∙ h) q

-- head and labels have no terms
pub head-terms : (terms : Terms) (L : Limits) (s : List ℕ) → head_fault (with_terms terms L) s ≡ head_fault L s
unfolding head_fault range_fault
head-terms terms L s = refl

label-terms : (terms : Terms) (L : Limits) (s : List ℕ) (left at : ℕ) → label_fault (with_terms terms L) s left at ≡ label_fault L s left at
unfolding label_fault
label-terms terms L s zero at = refl
label-terms terms L s (suc left) at = ap (if_less L.label (byte_at s at) (fault 4)) (label-terms terms L s left (at + 1))

pub labels-terms : (terms : Terms) (L : Limits) (s : List ℕ) (n : ℕ) → labels_fault (with_terms terms L) s n ≡ labels_fault L s n
unfolding labels_fault
labels-terms terms L s n = ap (first_of (open_fault model_record 0x4C42 (2 + n) s 6)) (label-terms terms L s n 8)

-- a fault of the head is the file's
pub head-stops : (L : Limits) (s : List ℕ) {x : Fault} → x ≡ head_fault L s → (x.number ≡ 0 → ⊥) → refused x 0 ≡ scan_whole L s
unfolding scan_whole scan_model refuse_bytes_left
head-stops L s {x} e h = subst (λ (scan : Scan). refused x 0 ≡ refuse_bytes_left s scan) (refuse-stops _ 0 _ e h) refl

pub transition-passed : (L : Limits) (s : List ℕ) (n m last entries at : ℕ) → Passes (transition_fault L s n m last entries at) → PassedTransition L s n m last entries at
unfolding transition_fault fixed_fault_at fixed_fault
transition-passed L s n m last entries at e =
    let a = none_first _ _ e in
    let b = opened model_record 0x5452 7 s at model-refuses a.0 in
    let d = none_first _ _ a.1 in
    let f = pass-if_less _ _ _ _ d.0 (omega arith) in
    let g = pass-unless_less _ _ _ _ f.1 (omega arith) in
    let h = pass-unless_less _ _ _ _ g.1 (omega arith) in
    let i = pass-unless_less _ _ _ _ h.1 (omega arith) in
    let j = pass-unless_less _ _ _ _ i.1 (omega arith) in
    let k = pass-if_less _ _ _ _ j.1 (omega arith) in
    let l = pass-if_less _ _ _ _ k.1 (omega arith) in
    let o = pass-if_less _ _ _ _ d.1 (omega arith) in
    let p = none_first _ _ o.1 in
    record {
      mark = b.marked;
      fixed = b.whole;
      ascends = f.0;
      source = g.0;
      action = h.0;
      denominator = i.0;
      some = j.0;
      most = k.0;
      few = l.0;
      whole = o.0;
      shares = p.0;
      terms = p.1;
    }

-- what a head without fault tells
pub record PassedHead (L : Limits) (s : List ℕ) : Type 0 where
  pub mark : two_at s 0 ≡ 0x5041
  pub whole : 6 ≤ length s
  pub some : 0 < states_of s
  pub states : states_of s ≤ L.states
  pub some_action : 0 < actions_of s
  pub actions : actions_of s ≤ L.actions
  pub transitions : count_of s ≤ L.transitions

pub head_passed : (L : Limits) (s : List ℕ) → Passes (head_fault L s) → PassedHead L s
unfolding head_fault range_fault
head_passed L s e =
    let a = none_first _ _ e in
    let b = opened model_record 0x5041 6 s 0 model-refuses a.0 in
    let d = pass-unless_less _ _ _ _ a.1 (omega arith) in
    let f = pass-if_less _ _ _ _ d.1 (omega arith) in
    let g = pass-unless_less _ _ _ _ f.1 (omega arith) in
    let h = pass-if_less _ _ _ _ g.1 (omega arith) in
    let i = pass-if_less _ _ _ _ h.1 (omega arith) in
    record { mark = b.marked; whole = b.whole; some = d.0; states = f.0; some_action = g.0; actions = h.0; transitions = i.0 }

-- what labels without fault tell
pub record PassedLabels (L : Limits) (s : List ℕ) (n : ℕ) : Type 0 where
  pub mark : two_at s 6 ≡ 0x4C42
  pub whole : 8 + n ≤ length s
  pub small : Passes (label_fault L s n 8)

pub labels-passed : (L : Limits) (s : List ℕ) (n : ℕ) → Passes (labels_fault L s n) → PassedLabels L s n
unfolding labels_fault
labels-passed L s n e =
    let a = none_first _ _ e in
    let b = opened model_record 0x4C42 (2 + n) s 6 model-refuses a.0 in
    record { mark = b.marked; whole = omega (arith, b.whole); small = a.1 }

-- the numbers of reading
pub read_low : (terms : Terms) (k : ℕ) → k ≤ 9 → ReadNumber terms k
unfolding ReadNumber
read_low any_terms k h = h
read_low lowest_terms k h = inl h

pub read_number : (terms : Terms) (k : ℕ) → ReadNumber terms k → (k ≤ 9) ⊎ (k ≡ 34)
unfolding ReadNumber
read_number any_terms k h = inl h
read_number lowest_terms k h = h

pub read-otherwise : (terms : Terms) (k : ℕ) → ReadNumber terms k → Otherwise k
read-otherwise terms k h = ⊎_elim (λ x. omega arith) (λ x. omega arith) (read_number terms k h)

pub read-not-ten : (terms : Terms) → ReadNumber terms 10 → ⊥
read-not-ten terms h = ⊎_elim (λ x. omega (arith, x)) (λ x. omega (arith, x)) (read_number terms 10 h)

-- every fault of a model record has a number of reading, and no state
pub record Small (terms : Terms) (f : Fault) : Type 0 where
  pub number : ReadNumber terms f.number
  pub told : Told f

small : {terms : Terms} (k : ℕ) → k ≤ 8 → Small terms (fault k)
small {terms} k h = record { number = read_low terms k (omega arith); told = told-fault k (omega arith) }

none-small : {terms : Terms} → Small terms no_fault
none-small = small 0 (omega arith)

or_less : {terms : Terms} (a b : ℕ) {x y : Fault} → Small terms x → Small terms y → Small terms (if_less a b x y)
or_less {terms} a b p q = either_less (Small terms) a b p q

or_same : {terms : Terms} (a b : ℕ) {x y : Fault} → Small terms x → Small terms y → Small terms (if_same a b x y)
or_same {terms} a b p q = either_same (Small terms) a b p q

open-small : {terms : Terms} (mark size : ℕ) (s : List ℕ) (at : ℕ) → Small terms (open_fault model_record mark size s at)
open-small {terms} mark size s at = either-open model_record mark size s at (Small terms) (small 1 (omega arith)) (small 2 (omega arith)) none-small

head_fault-small : (L : Limits) (s : List ℕ) → Small L.terms (head_fault L s)
unfolding head_fault range_fault
head_fault-small L s =
    let range = small {terms = L.terms} 3 (omega arith) in
    either_first (Small L.terms) _ _ (open-small 0x5041 6 s 0)
    (or_less _ _ (or_less _ _ range (or_less _ _ (or_less _ _ range (or_less _ _ range none-small)) range)) range)

label_fault-small : (L : Limits) (s : List ℕ) (left at : ℕ) → Small L.terms (label_fault L s left at)
unfolding label_fault
label_fault-small L s zero at = none-small
label_fault-small L s (suc left) at = or_less _ _ (small 4 (omega arith)) (label_fault-small L s left (at + 1))

labels_fault-small : (L : Limits) (s : List ℕ) (n : ℕ) → Small L.terms (labels_fault L s n)
unfolding labels_fault
labels_fault-small L s n = either_first (Small L.terms) _ _ (open-small 0x4C42 (2 + n) s 6) (label_fault-small L s n 8)

entries_fault-small : {terms : Terms} (s : List ℕ) (n d left at lowest total : ℕ) → Small terms (entries_fault s n d left at lowest total)
unfolding entries_fault
entries_fault-small s n d zero at lowest total = or_same _ _ none-small (small 7 (omega arith))
entries_fault-small {terms} s n d (suc left) at lowest total =
    let entry = small {terms = terms} 6 (omega arith) in
    or_less _ _ entry
    (or_less _ _
    (or_less _ _ (entries_fault-small s n d left (at + 3) (byte_at s at + 1) (total + two_at s (at + 1))) entry)
    entry)

fixed_fault-small : (L : Limits) (n m last entries source action d c : ℕ) → Small L.terms (fixed_fault L n m last entries source action d c)
unfolding fixed_fault
fixed_fault-small L n m last entries source action d c =
    let fixed = small {terms = L.terms} 5 (omega arith) in
    or_less _ _ fixed
    (or_less _ _
    (or_less _ _
    (or_less _ _ (or_less _ _ (or_less _ _ fixed (or_less _ _ (small 8 (omega arith)) none-small)) fixed) fixed)
    fixed)
    fixed)

terms_fault-small : (terms : Terms) (t : Transition) → Small terms (terms_fault terms t)
unfolding terms_fault ReadNumber
terms_fault-small any_terms t = none-small
terms_fault-small lowest_terms t = or_same _ _ none-small (record { number = inr refl; told = told-fault 34 (omega arith) })

pub transition_fault-small : (L : Limits) (s : List ℕ) (n m last entries at : ℕ) → Small L.terms (transition_fault L s n m last entries at)
unfolding transition_fault fixed_fault_at
transition_fault-small L s n m last entries at =
    either_first (Small L.terms) _ _ (open-small 0x5452 7 s at)
    (either_first (Small L.terms) _ _ (fixed_fault-small L n m last entries _ _ _ _)
    (or_less _ _ (small 1 (omega arith))
    (either_first (Small L.terms) _ _ (entries_fault-small s n _ _ (at + 7) 0 0) (terms_fault-small L.terms _))))

-- a record's fault refuses at its place, or there is none and the next record decides
pub refuse-cases {κ} : (P : Scan → Type κ) (f : Fault) (place : ℕ) (next : Scan) → ((f.number ≡ 0 → ⊥) → P (refused f place)) → (Passes f → P next) → P (refuse_at f place next)
unfolding refuse_at if_same
refuse-cases P f place next p q = go (eqb f.number 0) refl
  where
    go : (t : Bool) → eqb f.number 0 ≡ t → P (cond t next (refused f place))
    go true e = q (eqb-true f.number 0 e)
    go false e = p (eqb-false f.number 0 e)

-- what a scan tells of its places: a sound model ends in the file, and a refusal of document 01 is at a place of it
pub record Sound (L : Limits) (s : List ℕ) (n m count end : ℕ) : Type 0 where
  pub states : n ≡ states_of s
  pub actions : m ≡ actions_of s
  pub transitions : count ≡ count_of s
  pub labels : 8 + n ≤ length s
  pub head : PassedHead L s
  pub inside : end ≤ length s
  pub last : end ≡ place_of s count
  pub records : (r : ℕ) → r < count → after_transition s (place_of s r) ≤ length s

pub record Placed (terms : Terms) (s : List ℕ) (f : Fault) (place : ℕ) : Type 0 where
  pub some : 1 ≤ f.number
  pub known : ReadNumber terms f.number
  pub told : Told f
  pub inside : place ≤ length s

-- a small fault is told of at its place
small-placed : {terms : Terms} (s : List ℕ) (f : Fault) (place : ℕ) → Small terms f → (Passes f → ⊥) → place ≤ length s → Placed terms s f place
small-placed s f place small n inside = record { some = omega arith; known = small.number; told = small.told; inside = inside }

abbrev pub Tells : Limits → List ℕ → Scan → Type 0
Tells L s (sound n m count end) = Sound L s n m count end
Tells L s (refused f place) = Placed L.terms s f place

-- the records up to r lie in the file
Inside : List ℕ → ℕ → Type 0
Inside s r = (k : ℕ) → k < r → after_transition s (place_of s k) ≤ length s

one-more-inside : (s : List ℕ) (r : ℕ) → Inside s r → after_transition s (place_of s r) ≤ length s → Inside s (suc r)
unfolding Inside
one-more-inside s r h e k less = go (ℕ_discrete k r)
  where
    go : Dec (k ≡ r) → after_transition s (place_of s k) ≤ length s
    go (yes q) = subst (λ (j : ℕ). after_transition s (place_of s j) ≤ length s) (sym q) e
    go (no q) = h k (omega arith)

transitions-tell : (L : Limits) (s : List ℕ) → PassedHead L s → 8 + states_of s ≤ length s → (left r last entries : ℕ) → r + left ≡ count_of s → Inside s r → place_of s r ≤ length s → Tells L s (scan_transitions L s (states_of s) (actions_of s) (count_of s) left last entries (place_of s r))
unfolding scan_transitions Inside place_of
transitions-tell L s head labels zero r last entries e before inside =
    let q : r ≡ count_of s = omega arith in
    record {
      states = refl;
      actions = refl;
      transitions = refl;
      labels = labels;
      head = head;
      inside = inside;
      last = ap (place_of s) q;
      records = λ k less. before k (omega arith);
    }
transitions-tell L s head labels (suc left) r last entries e before inside =
    refuse-cases (Tells L s) (transition_fault L s (states_of s) (actions_of s) last entries (place_of s r)) (place_of s r) _
    (λ n. small-placed s _ _ (transition_fault-small L s (states_of s) (actions_of s) last entries (place_of s r)) n inside)
    (λ f.
    let p = transition-passed L s (states_of s) (actions_of s) last entries (place_of s r) f in
    transitions-tell L s head labels left (suc r) (source_at s (place_of s r)) (entries + entry_count_at s (place_of s r)) (omega arith)
    (one-more-inside s r before p.whole) p.whole)

pub scan-tells : (L : Limits) (s : List ℕ) → Tells L s (scan_model L s)
unfolding scan_model place_of Inside
scan-tells L s =
    refuse-cases (Tells L s) (head_fault L s) 0 _ (λ n. small-placed s _ _ (head_fault-small L s) n (omega arith))
    (λ h.
    let head = head_passed L s h in
    refuse-cases (Tells L s) (labels_fault L s (states_of s)) 6 _
    (λ n. small-placed s _ _ (labels_fault-small L s (states_of s)) n head.whole)
    (λ l.
    let labels = (labels-passed L s (states_of s) l).whole in
    transitions-tell L s head labels (count_of s) 0 0 0 (omega arith) (λ k less. absurd (omega arith)) labels))

-- bytes left are refused, and else nothing changes
pub whole_tells : (L : Limits) (s : List ℕ) → Tells L s (scan_whole L s)
unfolding scan_whole refuse_bytes_left
whole_tells L s = go (scan_model L s) (scan-tells L s)
  where
    go : (scan : Scan) → Tells L s scan → Tells L s (refuse_bytes_left s scan)
    go (sound n m count end) t =
        either_less (Tells L s) end (length s) (record { some = omega arith; known = read_low L.terms 9 (omega arith); told = told-fault 9 (omega arith); inside = t.inside }) t
    go (refused f place) t = t

-- The range of an entry's state may be tested after the last entry: states ascend, so once one is not below n neither is the lowest that
-- may follow, and the refusal is 6 in either order. `whole` is what all entries come to
pub record EntriesSoFar (s : List ℕ) (n d left at lowest total : ℕ) (whole : Fault) : Type 0 where
  pub in_range : lowest ≤ n → entries_fault s n d left at lowest total ≡ whole
  pub out_of_range : n < lowest → fault 6 ≡ whole

module _ (s : List ℕ) (n d left at lowest total : ℕ) (whole : Fault) (h : EntriesSoFar s n d left at lowest total whole) (some : 0 < left) where
  -- where the lowest state is in range, a fault of the next entry is the fault of all
  in-range : (fault 6 ≡ entries_fault s n d left at lowest total) → lowest ≤ n → fault 6 ≡ whole
  in-range e small = e ∙ h.in_range small

  or-out : (lowest ≤ n → fault 6 ≡ entries_fault s n d left at lowest total) → fault 6 ≡ whole
  or-out f = go (dec_le lowest n)
    where
      go : Dec (lowest ≤ n) → fault 6 ≡ whole
      go (yes small) = in-range (f small) small
      go (no large) = h.out_of_range (omega arith)

  -- an entry out of order, and one with weight 0
  pub entry-descends : byte_at s at < lowest → fault 6 ≡ whole
  entry-descends e = or-out (λ small. via (entries_fault-turn s n d left at lowest total some) (less _ e refl))

  entry-beyond : lowest ≤ byte_at s at → n ≤ byte_at s at → fault 6 ≡ whole
  entry-beyond e f = or-out (λ small. via (entries_fault-turn s n d left at lowest total some) (not_less _ e (not_less _ f refl)))

  pub entry-empty : lowest ≤ byte_at s at → two_at s (at + 1) ≡ 0 → fault 6 ≡ whole
  entry-empty e z = go (dec_le n (byte_at s at))
    where
      go : Dec (n ≤ byte_at s at) → fault 6 ≡ whole
      go (yes large) = entry-beyond e large
      go (no small) =
          or-out
          (λ q.
          via (entries_fault-turn s n d left at lowest total some)
          (not_less _ e (less _ (omega arith) (not_less _ (omega arith) refl))))

  -- an entry that may follow: its state v, its weight p and the place after it
  pub entry_follows : (v p next : ℕ) → v ≡ byte_at s at → p ≡ two_at s (at + 1) → next ≡ at + 3 → lowest ≤ v → 0 < p → EntriesSoFar s n d (left - 1) next (v + 1) (total + p) whole
  entry_follows v p next is_v is_p is_next e z =
      record {
        in_range = λ q.
            via (sym (h.in_range (omega arith)) ∙ entries_fault-turn s n d left at lowest total some)
            (not_less _ (omega arith) (less _ (omega arith) (less _ (omega arith) (cc))));
        out_of_range = λ q. entry-beyond (omega arith) (omega arith);
      }

-- before the first entry, at its place, and what is left after the last
pub entries-start : (s : List ℕ) (n d count at place : ℕ) → place ≡ at → EntriesSoFar s n d count place 0 0 (entries_fault s n d count at 0 0)
entries-start s n d count at place e =
    record { in_range = λ q. ap (λ (k : ℕ). entries_fault s n d count k 0 0) e; out_of_range = λ q. absurd (omega arith) }

pub entries-end : (s : List ℕ) (n d left at lowest total : ℕ) (whole : Fault) → EntriesSoFar s n d left at lowest total whole → left ≤ 0 → lowest ≤ n → unless_same total d (fault 7) no_fault ≡ whole
entries-end s n d left at lowest total whole h e q = sym (entries_fault-end s n d left at lowest total e) ∙ h.in_range q
