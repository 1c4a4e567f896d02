-- Laws of a merged transition and its record.
use Rattle.std.specs.Prelude.{ℕ, ◌+◌, ◌-◌, ◌/◌, ◌≤◌, ◌<◌, ◌≡◌, refl, Bool, true, false, ltb, length}
use Rattle.std.proofs.Math.Path.{sym, ap, ap₂}
use Rattle.std.proofs.Common.{◌∙◌, subst, ltb-true, ltb-false, arith}
use mathlib.Core.List.{List, ◌++◌, map}
use Rattle.std.proofs.Math.ListN.{get_or}
use Rattle.std.proofs.lemmas.List.{length-map}
use Rattle.numbers.specs.definitions.Divisor.{divisor_of}
use Rattle.rules.specs.definitions.Bytes.{two_bytes}
use Rattle.rules.specs.definitions.Limits.{limits}
use Rattle.rules.specs.definitions.Model.{Entry, entries_bytes, transition_bytes, automaton_of}
use Rattle.rules.specs.definitions.LowestTerms.{divisor_in, divided_entry, in_lowest}
use Rattle.rules.specs.definitions.Reading.{states_of, count_of, entry_count_at, transition_at, model_at, place_of}
use Rattle.quotient.specs.definitions.Quotient.{weight_to_block, block_entries, added_up, merged_transition}
use Rattle.rules.proofs.argument.TermsLaws.{divisor-some}
use Rattle.quotient.proofs.argument.QuotientLaws.{added-rules}
use Rattle.rules.specs.definitions.BlockCount.{block_count}
use Rattle.rules.proofs.argument.ModelAutomaton.{automaton-source, automaton-action, automaton-denominator}
use Rattle.rules.proofs.argument.SoundModelLaws.{each_map}
use Rattle.transition_record.specs.declared.Fields.{Fields}
use Rattle.transition.specs.Known.{Known, KnownTransition, FieldsOf, entries_of}
use Rattle.transition.specs.KnownLaws.{known-states, known-transition, rules-of, entries-known}
use Rattle.writer.specs.Appends.{Appends, fixed_bytes}
use Rattle.writer.specs.AppendsLaws.{append-more, record-bytes}
use Rattle.merged_transition.specs.MergedTransition.{CanMerge, Merged}
use Rattle.merged_transition.specs.Weights.{weight_in, weight_entries, weights_by_block, CanAdd, WeightsOf, CanDivide, CanCount, CanWriteEntries, WroteEntries}
use Rattle.merged_transition.specs.WeightsLaws.{common-by-block, divided-length, weight-light, weight-past, entries-same, entries-merged, entries-few, entries-shorter, entries-beyond}

module _ {s places : List ℕ} {n count r : ℕ} {blocks : List ℕ} {k : ℕ} {weights out : List ℕ} {at : ℕ} (known : Known s n count places) (m : CanMerge s count r blocks k weights out at) where
  own-known : KnownTransition s places r
  own-known = known-transition known m.less

  pub merging-adds : CanAdd s count r blocks weights
  merging-adds =
      record {
        less = m.less;
        whole = m.merging.whole;
        below = λ v h. omega (arith, m.merging.below v h, m.merging.few);
        none = m.none;
      }

  module _ {added : List ℕ} {counted : ℕ} (w : WeightsOf blocks (entries_of s r) added counted) where
    by-block : weight_entries (weight_in added) k ≡ weight_entries (weight_to_block blocks (entries_of s r)) k
    by-block = entries-same _ _ k (λ b h. w.held b (omega (arith, h, m.merging.few)))

    merged-entries : weight_entries (weight_in added) k ≡ block_entries blocks (entries_of s r) (block_count blocks) 0
    merged-entries = by-block ∙ entries-merged blocks (entries_of s r) k ∙ ap (λ (n : ℕ). block_entries blocks (entries_of s r) n 0) m.merging.count

    shorter : length (weight_entries (weight_in added) k) ≤ entry_count_at s (place_of s r)
    shorter =
        omega (arith, ap length by-block, entries-shorter s blocks k (entry_count_at s (place_of s r)) (place_of s r + 7))

    merging-counts : CanCount added k
    merging-counts = record { size = w.size; few = m.merging.few }

    -- none leads past the blocks of the states, so all that have a weight are among the first k
    none-past : (b : ℕ) → b < limits.states → k ≤ b → weight_in added b ≡ 0
    none-past b h past = w.held b h ∙ weight-past blocks (states_of s) k m.merging.below (entries_of s r) (entries-known own-known).states b past

    pub counted-blocks : counted ≡ length (weight_entries (weight_in added) k)
    counted-blocks =
        let rest : limits.states - k + k ≡ limits.states = omega (arith, m.merging.few) in
        w.counted
        ∙ ap (λ (n : ℕ). length (weight_entries (weight_in added) n)) (sym rest)
        ∙ ap length (entries-beyond (weight_in added) k (limits.states - k) (λ i from less. none-past i (omega (arith, less, rest)) from))

    pub count_small : counted < 256
    count_small = omega (arith, counted-blocks, entries-few (weight_in added) k, m.merging.few)

    pub merging-divides : CanDivide s count r blocks added
    merging-divides =
        record {
          less = m.less;
          whole = m.merging.whole;
          below = merging-adds.below;
          size = w.size;
          light = λ b h. omega (arith, w.held b h, weight-light blocks (entries_of s r) b, (entries-known own-known).whole, (entries-known own-known).light);
        }

    -- the common divisor of the blocks' weights is that of the weights added up
    module _ {g : ℕ} (common : g ≡ divisor_of 0 (weights_by_block blocks added (entries_of s r))) where
      is_divisor : g ≡ divisor_in (added_up blocks (transition_at s (place_of s r)))
      unfolding divisor_in added_up transition_at
      is_divisor =
          common
          ∙ common-by-block blocks added (entries_of s r) k (λ b h. w.held b (omega (arith, h, m.merging.few))) (each_map _ _ (λ e h. m.merging.below e.state h) (entries_of s r) (entries-known own-known).states)
          ∙ ap (λ (es : List Entry). divisor_of 0 (map (λ (e : Entry). e.weight) es)) merged-entries

      pub divisor-positive : 0 < g
      divisor-positive =
          omega (arith, is_divisor, divisor-some (added_up blocks (transition_at s (place_of s r))) (added-rules blocks (length (model_at s).labels) (model_at s).actions (transition_at s (place_of s r)) (rules-of own-known) below-labels))
        where
          below-labels : (v : ℕ) → v < length (model_at s).labels → get_or blocks v 0 < block_count blocks
          below-labels v h = unfold automaton_of in omega (arith, m.merging.below v (omega (arith, h, known-states known, known.states)), m.merging.count)

    module _ {g : ℕ} (common : g ≡ divisor_of 0 (weights_by_block blocks added (entries_of s r))) (source action denominator : ℕ) {head : List ℕ} {next : ℕ} (fixed : Appends (fixed_bytes source action denominator counted) at out head next) where
      past-fixed : next ≡ at + 7
      unfolding two_bytes
      past-fixed = fixed.place

      pub merging-writes : CanWriteEntries added k counted g head next
      merging-writes =
          record {
            table = merging-counts;
            counted = counted-blocks;
            some = divisor-positive common;
            light = λ b h. omega (arith, w.held b (omega (arith, h, m.merging.few)), weight-light blocks (entries_of s r) b, (entries-known own-known).whole, (entries-known own-known).light);
            room = omega (arith, past-fixed, m.room, shorter, fixed.size);
          }

      module _ {f : Fields} (t : FieldsOf s r f) (to : source ≡ get_or blocks f.source 0) (by : action ≡ f.action) (over : denominator ≡ f.denominator / g) where
        below : r < count_of s
        below = omega (arith, m.less, known.transitions)

        bytes : fixed_bytes source action denominator counted ++ entries_bytes (map (divided_entry g) (weight_entries (weight_in added) k)) ≡ transition_bytes (merged_transition blocks (transition_at s (place_of s r)))
        unfolding merged_transition in_lowest added_up transition_at
        bytes =
            record-bytes (merged_transition blocks (transition_at s (place_of s r)))
            (to ∙ ap (λ (v : ℕ). get_or blocks v 0) (t.source ∙ automaton-source s r below))
            (by ∙ t.action ∙ automaton-action s r below)
            (over ∙ ap₂ (λ (d h : ℕ). d / h) (t.denominator ∙ automaton-denominator s r below) (is_divisor common))
            (counted-blocks ∙ sym (length-map (weight_entries (weight_in added) k) (divided_entry g)))
            (ap₂ (λ (h : ℕ) (es : List Entry). map (divided_entry h) es) (is_divisor common) merged-entries)

        pub merged-done : {after written : List ℕ} {past : ℕ} → WroteEntries g k added after next head written past → Merged s r blocks after at out written past
        merged-done {after} {written} {past} e =
            record {
              appended = subst (λ (l : List ℕ). Appends l at out written past) bytes (append-more fixed e.appended);
              none = record { size = e.size; none = λ b h. go b h (ltb b k) refl };
              shorter = omega (arith, e.appended.place, past-fixed, shorter, divided-length g (weight_entries (weight_in added) k));
            }
          where
            go : (b : ℕ) → b < limits.states → (u : Bool) → ltb b k ≡ u → weight_in after b ≡ 0
            go b h true q = e.gone b (ltb-true b k q)
            go b h false q = e.kept b (ltb-false b k q) ∙ none-past b h (ltb-false b k q)
