-- Laws of the merged transitions in a buffer: what a transition that is looked at comes to.
use Rattle.std.specs.Prelude.{ℕ, zero, suc, ◌+◌, ◌*◌, ◌-◌, ◌≤◌, ◌<◌, ◌≡◌, refl, Bool, true, false}
use Rattle.std.proofs.Math.Path.{sym, ap}
use Rattle.std.proofs.Common.{◌∙◌, ap₂, subst, take_all, arith}
use mathlib.Core.List.{List, [], ◌∷◌, ◌++◌, append_assoc, append-nil}
use lib.ListN.{length, get_or, take, drop, length-append}
use Rattle.std.proofs.Math.Seq.{take-append_seam, drop-append_seam}
use Rattle.bisimulation.specs.definitions.Choice.{if_true}
use Rattle.bisimulation.proofs.argument.ChoiceLaws.{same, not_same, is_true, is_false}
use Rattle.rules.specs.definitions.Model.{Transition, transition_bytes, transitions_bytes, no_transition, automaton_of}
use Rattle.rules.specs.definitions.Reading.{entry_count_at, transition_at, model_at, place_of}
use Rattle.rules.specs.definitions.SoundModel.{Each, sum_over, TransitionRules, LowestTerms}
use Rattle.rules.proofs.argument.SoundModelLaws.{each_at, each_map}
use Rattle.rules.proofs.argument.ReadBack.{transition_bytes-length}
use Rattle.rules.proofs.argument.ModelAutomaton.{transition-is}
use Rattle.rules.proofs.argument.FetchedRun.{length-entries_at}
use Rattle.quotient.proofs.argument.KeyedSums.{each_all, sum_over-most, sum_over-length}
use Rattle.rules.specs.definitions.BlockCount.{block_count}
use Rattle.quotient.specs.definitions.Quotient.{merged_transition, from_block, is_among, distinct, by_block}
use Rattle.quotient.proofs.argument.QuotientLaws.{merged-few, merged-rules, merged-lowest, each-distinct, each_from, transitions-length}
use Rattle.limits.specs.Sizes.{records}
use Rattle.transition.specs.Known.{Known}
use Rattle.transition.specs.KnownLaws.{known-states, known-transitions}
use Rattle.writer.specs.Appends.{Appends}
use Rattle.writer.specs.AppendsLaws.{front_kept, appended-part, appended-front, transitions-append}
use Rattle.merged_transition.specs.MergedTransition.{BlocksBelow, CanMerge, Merged}
use Rattle.same_transition.specs.SameTransition.{StandAs, IsRepeated}
use Rattle.merged_transitions.specs.declared.Kept.{Kept}
use Rattle.merged_transitions.specs.MergedTransitions.{transitions_in, block_of_source, IsFirst, Holds, before, here, InBlock, CanKeep, Keeps}
use Rattle.merged_transitions.specs.DistinctLaws.{distinct_more, from_more, by-block-more}
use Rattle.merged_transitions.specs.RoomLaws.{size_of, each_first, room}

-- a part in the middle: what stands between two places
middle : (s xs ys : List ℕ) (start at : ℕ) → take at s ≡ xs ++ ys → start ≡ length xs → at ≡ start + length ys → at ≤ length s → take (at - start) (drop start s) ≡ ys
middle s xs ys start at e f g h =
    let size : at - start ≡ length ys = omega arith in
    ap (λ (l : List ℕ). take (at - start) (drop start l)) (sym (lib.ListN.take-append-drop at s) ∙ ap (λ (l : List ℕ). l ++ drop at s) e ∙ append_assoc xs ys (drop at s))
    ∙ ap₂ (λ (k : ℕ) (j : ℕ). take k (drop j (xs ++ (ys ++ drop at s)))) size f
    ∙ ap (take (length ys)) (drop-append_seam xs (ys ++ drop at s))
    ∙ take-append_seam ys (drop at s)

-- sizes of records
sizes : (ts : List Transition) → sum_over size_of ts ≡ 7 * sum_over (λ t. 1) ts + 3 * sum_over (λ (t : Transition). length t.entries) ts
unfolding sum_over
sizes [] = omega arith
sizes (t ∷ ts) = omega (arith, sizes ts, transition_bytes-length t)

-- the model's transitions
module _ {s places : List ℕ} {n count : ℕ} (k : Known s n count places) where
  pub count-is : length (transitions_in s) ≡ count
  unfolding automaton_of
  count-is = known-transitions k

  transition-at : (r : ℕ) → r < count → get_or (transitions_in s) r no_transition ≡ transition_at s (place_of s r)
  transition-at r h = transition-is s r (omega (arith, h, k.transitions))

  entries_at : (r : ℕ) → r < count → length (get_or (transitions_in s) r no_transition).entries ≡ entry_count_at s (place_of s r)
  unfolding transition_at
  entries_at r h =
      ap (λ (t : Transition). length t.entries) (transition-at r h) ∙ length-entries_at s (entry_count_at s (place_of s r)) (place_of s r + 7)

  -- their records have at most so many bytes
  few_bytes : sum_over size_of (transitions_in s) ≤ records
  few_bytes = omega (arith, sizes (transitions_in s), sum_over-length (transitions_in s), k.sound.count, k.sound.entries)

  module _ {blocks : List ℕ} {m : ℕ} (b : BlocksBelow n m blocks) where
    -- every transition's block is below their count
    blocks-below : Each (λ (t : Transition). get_or blocks t.source 0 < m) (transitions_in s)
    unfolding automaton_of
    blocks-below = each_map _ _ (λ t h. b.below t.source (omega (arith, h.source, known-states k))) (transitions_in s) k.sound.transitions

    below-count : (v : ℕ) → v < length (model_at s).labels → get_or blocks v 0 < block_count blocks
    unfolding automaton_of
    below-count v h = omega (arith, b.below v (omega (arith, h, known-states k)), b.count)

    -- merging makes no record longer
    shorter : Each (λ (t : Transition). size_of (merged_transition blocks t) ≤ size_of t) (transitions_in s)
    shorter =
        each_map _ _ (λ t h. omega (arith, transition_bytes-length t, transition_bytes-length (merged_transition blocks t), merged-few blocks (length (model_at s).labels) (model_at s).actions t h below-count)) (transitions_in s) k.sound.transitions

    -- a merged transition keeps the rules of the merged model, and so do those of a block
    merged-sound : (t : Transition) → TransitionRules (length (model_at s).labels) (model_at s).actions t → TransitionRules (block_count blocks) (model_at s).actions (merged_transition blocks t)
    merged-sound t h = merged-rules blocks (length (model_at s).labels) (model_at s).actions t h below-count

    -- in lowest terms
    merged-in-lowest : (t : Transition) → TransitionRules (length (model_at s).labels) (model_at s).actions t → LowestTerms (merged_transition blocks t)
    merged-in-lowest t h = merged-lowest blocks (length (model_at s).labels) (model_at s).actions t h below-count

    -- what merged transitions have, those of a block have
    block-each : (P : Transition → Type 0) → ((t : Transition) → TransitionRules (length (model_at s).labels) (model_at s).actions t → P (merged_transition blocks t)) → (c r : ℕ) → Each P (from_block blocks (take r (transitions_in s)) c)
    block-each P f c r =
        each_from blocks P c (take r (transitions_in s))
        (each_first _ r (transitions_in s) (each_map _ _ (λ t h e. f t h) (transitions_in s) k.sound.transitions))

    block-sound : (c r : ℕ) → Each (TransitionRules (block_count blocks) (model_at s).actions) (from_block blocks (take r (transitions_in s)) c)
    block-sound = block-each _ merged-sound

-- where none of the `left` transitions from r on is of the block b, those of b among the first r are those among the first r + left
none_between : (s blocks : List ℕ) (b r left : ℕ) → r + left ≤ length (transitions_in s) → ((i : ℕ) → r ≤ i → i < r + left → block_of_source s blocks i ≡ b → ⊥) → here blocks (transitions_in s) b r ≡ here blocks (transitions_in s) b (r + left)
none_between s blocks b r zero h none = let e : r ≡ r + 0 = omega arith in ap (here blocks (transitions_in s) b) e
none_between s blocks b r (suc left) h none =
    let e : r + left + 1 ≡ r + suc left = omega arith in
    none_between s blocks b r left (omega arith) (λ i from less. none i from (omega arith))
    ∙ ap (distinct (block_count blocks) [])
    (sym
    (from_more blocks b (transitions_in s) (r + left) (omega arith)
    ∙ ap (λ (l : List Transition). from_block blocks (take (r + left) (transitions_in s)) b ++ l) (sym (not_same _ (none (r + left) (omega arith) (omega arith)) refl))
    ∙ append-nil (from_block blocks (take (r + left) (transitions_in s)) b)))
    ∙ ap (here blocks (transitions_in s) b) e

-- so the next one to look at is the first of the block from r on
pub skip-others : {s places : List ℕ} {n count : ℕ} {blocks : List ℕ} {b r x start : ℕ} {out : List ℕ} {kept : Kept} → Known s n count places → IsFirst s blocks count b r x → InBlock s blocks b r start out kept → InBlock s blocks b x start out kept
skip-others {s} {blocks = blocks} {b} {r} {x} {out = out} {kept} k f h =
    let e : r + (x - r) ≡ x = omega (arith, f.from) in
    record {
      starts = h.starts;
      holds =
          subst (λ (l : List Transition). Holds (before blocks (transitions_in s) b ++ l) out kept)
          (none_between s blocks b r (x - r) (omega (arith, e, f.to, count-is k)) (λ i from less. f.none i from (omega (arith, less, e))) ∙ ap (here blocks (transitions_in s) b) e)
          h.holds;
    }

-- one of the block b
module _ {s places : List ℕ} {n count : ℕ} {blocks : List ℕ} {k b r : ℕ} {weights out : List ℕ} {start : ℕ} {kept : Kept} (known : Known s n count places) (c : CanKeep s n count blocks k b r weights out start kept) where
  below : r < length (transitions_in s)
  below = omega (arith, c.less, count-is known)

  abbrev done : List Transition
  done = before blocks (transitions_in s) b ++ here blocks (transitions_in s) b r

  next-rules : TransitionRules (length (model_at s).labels) (model_at s).actions (get_or (transitions_in s) r no_transition)
  next-rules = each_at _ (transitions_in s) r no_transition known.sound.transitions below

  pub can-merge : CanMerge s count r blocks k weights out kept.size
  can-merge =
      record {
        less = c.less;
        merging = subst (λ (x : ℕ). BlocksBelow x k blocks) known.states c.merging;
        none = c.none;
        room =
            omega (arith, room blocks (transitions_in s) (shorter known c.merging) k b r (blocks-below known c.merging) c.block below c.of, few_bytes known, c.large, c.held.holds.size, transitions-length done, transition_bytes-length (get_or (transitions_in s) r no_transition), entries_at known r c.less);
      }

  pub few-kept : kept.count ≤ records
  few-kept =
      omega (arith, c.held.holds.count, sum_over-length done, sum_over-most (λ (t : Transition). 1) size_of done (each_all _ (λ t. omega (arith, transition_bytes-length t)) done), room blocks (transitions_in s) (shorter known c.merging) k b r (blocks-below known c.merging) c.block below c.of, few_bytes known)

  module _ {weights' out' : List ℕ} {next : ℕ} (m : Merged s r blocks weights' kept.size out out' next) where
    abbrev added : Transition
    added = merged_transition blocks (get_or (transitions_in s) r no_transition)

    appended : Appends (transition_bytes added) kept.size out out' next
    appended =
        subst (λ (t : Transition). Appends (transition_bytes (merged_transition blocks t)) kept.size out out' next) (sym (transition-at known r c.less)) m.appended

    front : take kept.size out' ≡ transitions_bytes done
    front = front_kept appended ∙ c.held.holds.bytes

    parts : transitions_bytes done ≡ transitions_bytes (before blocks (transitions_in s) b) ++ transitions_bytes (here blocks (transitions_in s) b r)
    parts = transitions-append (before blocks (transitions_in s) b) (here blocks (transitions_in s) b r)

    place_is : kept.size ≡ start + length (transitions_bytes (here blocks (transitions_in s) b r))
    place_is =
        omega (arith, c.held.holds.size, ap length parts, length-append (transitions_bytes (before blocks (transitions_in s) b)) (transitions_bytes (here blocks (transitions_in s) b r)), c.held.starts)

    pub stands : StandAs out' start kept.size next (block_count blocks) (model_at s).actions (here blocks (transitions_in s) b r) added
    unfolding merged_transition
    stands =
        record {
          first = omega (arith, place_is);
          second = omega (arith, appended.place);
          inside = omega (arith, appended.room, appended.size);
          records = middle out' (transitions_bytes (before blocks (transitions_in s) b)) (transitions_bytes (here blocks (transitions_in s) b r)) start kept.size (front ∙ parts) c.held.starts place_is (omega (arith, appended.place, appended.room, appended.size));
          record-bytes = appended-part appended;
          rules = merged-sound known c.merging (get_or (transitions_in s) r no_transition) next-rules;
          alike = each-distinct (block_count blocks) _ [] (from_block blocks (take r (transitions_in s)) b) (block-sound known c.merging b r);
          lowest = merged-in-lowest known c.merging (get_or (transitions_in s) r no_transition) next-rules;
          all_lowest =
              each-distinct (block_count blocks) _ [] (from_block blocks (take r (transitions_in s)) b) (block-each known c.merging LowestTerms (merged-in-lowest known c.merging) b r);
        }

    one_more : here blocks (transitions_in s) b (r + 1) ≡ here blocks (transitions_in s) b r ++ if_true (is_among (block_count blocks) added (here blocks (transitions_in s) b r)) [] (added ∷ [])
    one_more =
        ap (distinct (block_count blocks) [])
        (from_more blocks b (transitions_in s) r below
        ∙ ap (λ (l : List Transition). from_block blocks (take r (transitions_in s)) b ++ l) (sym (same [] c.of refl)))
        ∙ distinct_more (block_count blocks) (from_block blocks (take r (transitions_in s)) b) added (each_map _ _ (λ t h. h.positive) (from_block blocks (take r (transitions_in s)) b) (block-sound known c.merging b r))

    -- the same as one before it
    pub keep-repeated : {x : Bool} → x ≡ true → IsRepeated out' start kept.size x → Keeps s blocks b r weights' out out' start kept
    keep-repeated e h =
        record {
          held =
              record {
                starts = c.held.starts;
                holds =
                    subst (λ (l : List Transition). Holds (before blocks (transitions_in s) b ++ l) out' kept) (sym no_more)
                    (record { bytes = front; size = c.held.holds.size; count = c.held.holds.count });
              };
          none = m.none;
          size = appended.size;
        }
      where
        no_more : here blocks (transitions_in s) b (r + 1) ≡ here blocks (transitions_in s) b r
        no_more =
            one_more
            ∙ ap (λ (l : List Transition). here blocks (transitions_in s) b r ++ l) (sym (is_true _ (sym (h.tells _ _ _ _ added stands) ∙ e) refl))
            ∙ append-nil (here blocks (transitions_in s) b r)

    -- a new one
    pub keep-new : {x : Bool} {counted : ℕ} → x ≡ false → IsRepeated out' start kept.size x → counted ≡ kept.count + 1 → Keeps s blocks b r weights' out out' start (record { count = counted; size = next })
    unfolding transitions_bytes
    keep-new e h f =
        record {
          held =
              record {
                starts = c.held.starts;
                holds =
                    record {
                      bytes = appended-front appended ∙ ap (λ (l : List ℕ). l ++ transition_bytes added) c.held.holds.bytes ∙ sym bytes-more;
                      size = omega (arith, appended.place, c.held.holds.size, ap length bytes-more, length-append (transitions_bytes done) (transition_bytes added));
                      count = omega (arith, f, c.held.holds.count, ap length list-more, length-append done (added ∷ []));
                    };
              };
          none = m.none;
          size = appended.size;
        }
      where
        list-more : before blocks (transitions_in s) b ++ here blocks (transitions_in s) b (r + 1) ≡ done ++ (added ∷ [])
        list-more =
            ap (λ (l : List Transition). before blocks (transitions_in s) b ++ l)
            (one_more ∙ ap (λ (l : List Transition). here blocks (transitions_in s) b r ++ l) (sym (is_false _ (sym (h.tells _ _ _ _ added stands) ∙ e) refl)))
            ∙ sym (append_assoc (before blocks (transitions_in s) b) (here blocks (transitions_in s) b r) (added ∷ []))

        bytes-more : transitions_bytes (before blocks (transitions_in s) b ++ here blocks (transitions_in s) b (r + 1)) ≡ transitions_bytes done ++ transition_bytes added
        bytes-more =
            ap transitions_bytes list-more
            ∙ transitions-append done (added ∷ [])
            ∙ ap (λ (l : List ℕ). transitions_bytes done ++ l) (append-nil (transition_bytes added))

-- the transitions of a block begin with none, and all of them are those of the block
pub block-begins : (s blocks : List ℕ) (b : ℕ) {out : List ℕ} {kept : Kept} → Holds (before blocks (transitions_in s) b) out kept → InBlock s blocks b 0 kept.size out kept
unfolding from_block distinct
block-begins s blocks b {out} {kept} h =
    record { starts = h.size; holds = subst (λ (l : List Transition). Holds l out kept) (sym (append-nil (before blocks (transitions_in s) b))) h }

pub block-ends : (s blocks : List ℕ) (b r start : ℕ) {out : List ℕ} {kept : Kept} → r ≡ length (transitions_in s) → InBlock s blocks b r start out kept → Holds (before blocks (transitions_in s) (b + 1)) out kept
block-ends s blocks b r start {out} {kept} e h =
    let z : b ≡ 0 + b = omega arith in
    subst (λ (l : List Transition). Holds l out kept)
    (ap (λ (l : List Transition). before blocks (transitions_in s) b ++ distinct (block_count blocks) [] (from_block blocks l b)) (take_all r (transitions_in s) (omega arith))
    ∙ ap (λ (c : ℕ). before blocks (transitions_in s) b ++ distinct (block_count blocks) [] (from_block blocks (transitions_in s) c)) z
    ∙ sym (by-block-more blocks (transitions_in s) b 0))
    h.holds

-- no block, no transition
pub none-held : (s blocks out : List ℕ) → Holds (before blocks (transitions_in s) 0) out (record { count = 0; size = 0 })
unfolding by_block transitions_bytes
none-held s blocks out = record { bytes = refl; size = refl; count = refl }
