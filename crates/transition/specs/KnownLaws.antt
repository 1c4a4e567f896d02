-- Laws of a sound model and its transitions.
use Prim.Native.Nat.{ℕ, ◌+◌, ◌≤◌, ◌<◌}
use Rattle.std.specs.Prelude.{◌≡◌, List, length, get_or, ℤ, ◌*ℤ◌}
use Rattle.std.proofs.Math.Path.{sym, ap, subst}
use Rattle.std.proofs.Common.{◌∙◌, arith}
use Rattle.bisimulation.specs.definitions.Prices.{price_of_targets}
use Rattle.bisimulation.proofs.argument.SumLaws.{sumℤCong}
use Rattle.std.proofs.Math.IntN.{pos}
use Rattle.rules.specs.definitions.Limits.{Limits, limits}
use Rattle.limits.specs.Sizes as sizes
use Rattle.limits.specs.TermsBy.{limits_by}
use Rattle.limits.specs.declared.Terms.{Terms}
use Rattle.rules.specs.definitions.Model.{Entry, no_transition, automaton_of}
use Rattle.rules.specs.definitions.Reading.{sound, scan_whole, read_whole, states_of, count_of, entry_count_at, after_transition, transition_at, model_at, place_of, reading_of}
use Rattle.rules.proofs.argument.ReadingLaws.{Sound, Tells, whole_tells}
use Rattle.rules.specs.definitions.SoundModel.{Bytes, SoundModel, TransitionRules}
use Rattle.rules.proofs.argument.SoundModelLaws.{each_at, from-along, sound-any}
use Rattle.rules.proofs.argument.ReadSound.{read-whole-sound}
use Rattle.rules.proofs.argument.AnswerLaws.{labels_length}
use Rattle.rules.proofs.argument.ModelAutomaton.{length-transitions_at, automaton-states, automaton-transitions, automaton-source, automaton-action, automaton-denominator, automaton-weight, transition-is}
use Rattle.rules.proofs.argument.FetchedRun.{length-entries_at}
use Rattle.rules.proofs.argument.EntryPrices.{price_of_entries, price-of-entries}
use Rattle.transition_record.specs.Fields.{FieldsAt}
use Rattle.model.specs.Scanned.{PlacesHeld}
use Rattle.transition_record.specs.declared.Fields.{Fields}
use Rattle.transition.specs.Known.{automaton_in, Known, KnownTransition, FieldsOf, entries_of, EntriesKnown}

-- what a scan tells of a sound model
pub known-told : (L : Limits) {s : List ℕ} {n m count end : ℕ} {table : List ℕ} → Sound L s n m count end → SoundModel limits (model_at s) → PlacesHeld s (count + 1) table → length table ≡ sizes.places → Known s n count table
known-told L told rules held size =
    record {
      sound = rules;
      states = told.states;
      transitions = told.transitions;
      labels = told.labels;
      records = told.records;
      places = held;
      size = size;
    }

-- what the reader's answer tells
pub known : (terms : Terms) (s : List ℕ) (n m count end : ℕ) (table : List ℕ) → Bytes s → sound n m count end ≡ scan_whole (limits_by terms) s → PlacesHeld s (count + 1) table → length table ≡ sizes.places → Known s n count table
unfolding read_whole reading_of
known terms s n m count end table bytes e held size =
    known-told (limits_by terms) (subst (Tells (limits_by terms) s) (sym e) (whole_tells (limits_by terms) s))
    (sound-any (limits_by terms) (model_at s) (read-whole-sound (limits_by terms) s (model_at s) end bytes (ap (reading_of s) (sym e))).0) held size

module _ {s table : List ℕ} {n count : ℕ} (k : Known s n count table) where
  -- the places in another table
  pub with-table : {other : List ℕ} → PlacesHeld s (count + 1) other → length other ≡ sizes.places → Known s n count other
  with-table held size =
      record { sound = k.sound; states = k.states; transitions = k.transitions; labels = k.labels; records = k.records; places = held; size = size }

  -- the automaton has the states and transitions of the head
  pub known-states : (automaton_in s).states ≡ n
  known-states = automaton-states s (omega (arith, k.labels, k.states)) ∙ sym k.states

  pub known-transitions : (automaton_in s).transitions ≡ count
  known-transitions = automaton-transitions s ∙ sym k.transitions

  pub few-states : n ≤ limits.states
  unfolding automaton_of
  few-states = omega (arith, known-states, k.sound.states)

  pub some-state : 1 ≤ n
  unfolding automaton_of
  some-state = omega (arith, known-states, k.sound.some_state)

  pub few-transitions : count ≤ limits.transitions
  unfolding automaton_of
  few-transitions = omega (arith, known-transitions, k.sound.count)

  -- its states by the head
  pub known-own : Known s (states_of s) count table
  known-own = subst (λ (x : ℕ). Known s x count table) k.states k

  -- one of its transitions
  pub known-transition : {r : ℕ} → r < count → KnownTransition s table r
  known-transition less = record { count = count; known = known-own; below = less }

module _ {s table : List ℕ} {r : ℕ} (t : KnownTransition s table r) where
  below-count : r < count_of s
  below-count = omega (arith, t.below, t.known.transitions)

  -- it keeps the rules
  pub rules-of : TransitionRules (length (model_at s).labels) (model_at s).actions (transition_at s (place_of s r))
  unfolding model_at
  rules-of =
      subst (TransitionRules (length (model_at s).labels) (model_at s).actions) (transition-is s r below-count)
      (each_at _ (model_at s).transitions r no_transition t.known.sound.transitions
      (omega (arith, t.below, t.known.transitions, length-transitions_at s (count_of s) (8 + states_of s))))

  -- the table has its place, and the fixed fields lie in the file
  pub place-known : get_or table r 0 ≡ place_of s r
  place-known = t.known.places.held r (omega (arith, t.below))

  pub place-in-table : r + 1 < length table
  place-in-table = omega (arith, t.known.size, t.below, few-transitions t.known)

  pub fixed-inside : place_of s r + 7 ≤ length s
  unfolding after_transition
  fixed-inside = omega (arith, t.known.records r t.below)

  states-are : length (model_at s).labels ≡ states_of s
  states-are = labels_length s t.known.labels

  -- fields read at its place are its own
  pub fields-known : {place : ℕ} {f : Fields} → FieldsAt s place f → place ≡ place_of s r → FieldsOf s r f
  unfolding transition_at
  fields-known {place} {f} h e =
      let here = subst (λ (p : ℕ). FieldsAt s p f) e h in
      record {
        source = here.source ∙ sym (automaton-source s r below-count);
        action = here.action ∙ sym (automaton-action s r below-count);
        denominator = here.denominator ∙ sym (automaton-denominator s r below-count);
        count = here.count;
        entries = here.entries;
        from = omega (arith, here.source, rules-of.source, states-are);
        positive = omega (arith, here.denominator, rules-of.positive);
        small = omega (arith, here.denominator, rules-of.fits);
      }

  -- its action and its entry count fit their fields
  pub fields-small : {f : Fields} → FieldsOf s r f → (f.action < 256) × (f.count < 256)
  unfolding transition_at
  fields-small h = (
    omega (arith, h.action, automaton-action s r below-count, rules-of.action, t.known.sound.actions),
    omega (arith, h.count, length-entries_at s (entry_count_at s (place_of s r)) (place_of s r + 7), rules-of.most, t.known.sound.states),
  )

  pub entries-known : EntriesKnown s r
  unfolding transition_at after_transition
  entries-known =
      record {
        inside = t.known.records r t.below;
        states = subst (λ (x : ℕ). lib-each x) states-are rules-of.states;
        ascend = from-along _ _ _ rules-of.ascend;
        whole = rules-of.whole ∙ sym (automaton-denominator s r below-count);
        light = omega (arith, automaton-denominator s r below-count, rules-of.fits);
      }
    where
      lib-each : ℕ → Type 0
      lib-each x = Rattle.rules.specs.definitions.SoundModel.Each (λ (e : Entry). e.state < x) (entries_of s r)

  -- 'the sum of p(v)A(v)' is the sum over its entries
  pub price-known : (X : ℕ → ℤ) → price_of_targets (automaton_in s) X r ≡ price_of_entries (entries_of s r) X
  unfolding price_of_targets
  price-known X =
      sumℤCong (automaton_in s).states _ _ (λ v l. ap (λ (p : ℕ). pos p *ℤ X v) (automaton-weight s r below-count v))
      ∙ price-of-entries (automaton_in s).states (entries_of s r) 0 X entries-known.ascend
      (subst (λ (x : ℕ). Rattle.rules.specs.definitions.SoundModel.Each (λ (e : Entry). e.state < x) (entries_of s r)) (sym (known-states t.known)) entries-known.states)
