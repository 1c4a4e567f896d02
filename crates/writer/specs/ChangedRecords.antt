-- Loops that append the records of a model's file, each transition or entry changed in itself. No record becomes longer or shorter.
use Prim.Native.Nat.{ℕ, zero, suc, ◌+◌, ◌*◌, ◌-◌, ◌≤◌, ◌<◌}
use Rattle.std.specs.Prelude.{◌≡◌, List, [], ◌∷◌, ◌++◌, map}
use Rattle.std.proofs.Math.Path.{refl, ap, ap₂, subst}
use Rattle.std.proofs.Common.{sym, ◌∙◌, append_assoc}
use Rattle.std.proofs.Math.ListN.{length, length-append}
use Rattle.std.proofs.lemmas.List.{length-map}
use native.Mathlib.Omega.{arith}
use Rattle.rules.specs.definitions.Bytes.{two_bytes}
use Rattle.rules.specs.definitions.Model.{Entry, Transition, Model, entries_bytes, transition_bytes, transitions_bytes, head_bytes, labels_bytes, model_bytes}
use Rattle.rules.specs.definitions.Reading.{states_of, count_of, entry_count_at, after_transition, entries_at, transition_at, transitions_at, model_at, place_of}
use Rattle.rules.specs.definitions.SoundModel.{Each}
use Rattle.rules.proofs.argument.AnswerLaws.{labels_length}
use Rattle.rules.proofs.argument.ReadBack.{transition_bytes-length}
use Rattle.rules.proofs.argument.ReadingLaws.{place_of-next}
use Rattle.rules.proofs.argument.FetchedRun.{length-entries_at}
use Rattle.writer.specs.Appends.{Appends}
use Rattle.writer.specs.AppendsLaws.{Ahead, ahead-start, ahead-turn, ahead-end}

-- 'state 1, weight 2': an entry's fields have room for it
abbrev pub EntryFits : Entry → Type 0
EntryFits e = (e.state < 256) × (e.weight < 65536)

-- entries
module _ (f : Entry → Entry) where
  abbrev pub changed_entries : List Entry → List ℕ
  changed_entries es = entries_bytes (map f es)

  -- so many entries at a place, that fit their fields when changed, and room for them
  pub record CanChangeEntries (s : List ℕ) (left place : ℕ) (out : List ℕ) (at : ℕ) : Type 0 where
    pub inside : place + 3 * left ≤ length s
    pub fit : Each (λ (e : Entry). EntryFits (f e)) (entries_at s left place)
    pub room : at + 3 * left ≤ length out

  -- what is known before each entry that is written, with the entries that are left
  pub record ChangingEntries (all : List ℕ) (at : ℕ) (before : List ℕ) (es : List Entry) (out : List ℕ) (next : ℕ) : Type 0 where
    pub fit : Each (λ (e : Entry). EntryFits (f e)) es
    pub room : next + 3 * length es ≤ length out
    pub ahead : Ahead all at before (changed_entries es) next out

  pub entries-start : {s : List ℕ} {count place at : ℕ} {out : List ℕ} {es : List Entry} → es ≡ entries_at s count place → CanChangeEntries s count place out at → ChangingEntries (changed_entries (entries_at s count place)) at out es out at
  entries-start {s} {count} {place} {at} {out} e a =
      subst (λ (l : List Entry). ChangingEntries (changed_entries (entries_at s count place)) at out l out at) (sym e)
      (record { fit = a.fit; room = omega (arith, a.room, length-entries_at s count place); ahead = ahead-start (omega (arith, a.room)) })

  module _ {all : List ℕ} {at : ℕ} {before : List ℕ} {es : List Entry} {out : List ℕ} {next : ℕ} (h : ChangingEntries all at before es out next) where
    module _ {e : Entry} {others : List Entry} (first : es ≡ e ∷ others) where
      here : ChangingEntries all at before (e ∷ others) out next
      here = subst (λ (l : List Entry). ChangingEntries all at before l out next) first h

      -- the next one fits its fields, and there is room for it
      pub entries_fit : EntryFits (f e) × (next + 3 ≤ length out)
      unfolding Each
      entries_fit = (here.fit.0, omega (arith, here.room))

      pub entries-turn : {past state weight : ℕ} {more : List ℕ} → state ≡ (f e).state → weight ≡ (f e).weight → Appends (state ∷ two_bytes weight) next out more past → ChangingEntries all at before others more past
      unfolding Each entries_bytes two_bytes
      entries-turn is_state is_weight a =
          record {
            fit = here.fit.1;
            room = omega (arith, here.room, a.place, a.size);
            ahead = ahead-turn here.ahead (ap₂ (λ (x y : ℕ). x ∷ (two_bytes y ++ changed_entries others)) (sym is_state) (sym is_weight)) a;
          }

    pub entries-end : es ≡ [] → Appends all at before out next
    unfolding entries_bytes
    entries-end none = ahead-end h.ahead (ap changed_entries none)

-- what stands in a model's file before its transition records
abbrev pub front_bytes : Model → List ℕ
front_bytes M = head_bytes M ++ labels_bytes M

pub front-then : (M : Model) (rest : List ℕ) → model_bytes M ++ rest ≡ front_bytes M ++ (transitions_bytes M.transitions ++ rest)
unfolding model_bytes
front-then M rest =
    ap (λ (l : List ℕ). l ++ rest) (sym (append_assoc (head_bytes M) (labels_bytes M) (transitions_bytes M.transitions)))
    ∙ append_assoc (front_bytes M) (transitions_bytes M.transitions) rest

pub front-size : (s : List ℕ) → 8 + states_of s ≤ length s → length (front_bytes (model_at s)) ≡ 8 + states_of s
unfolding head_bytes labels_bytes two_bytes
front-size s inside = length-append (head_bytes (model_at s)) (labels_bytes (model_at s)) ∙ omega (arith, labels_length s inside)

-- it stays when transitions are changed
pub front-changed : (f : Transition → Transition) (M : Model) → front_bytes (record { actions = M.actions; labels = M.labels; transitions = map f M.transitions }) ≡ front_bytes M
unfolding head_bytes labels_bytes
front-changed f M = ap (λ (k : ℕ). 0x50 ∷ 0x41 ∷ length M.labels ∷ M.actions ∷ (two_bytes k ++ labels_bytes M)) (length-map M.transitions f)

one_less : (s : List ℕ) (left at : ℕ) → 0 < left → transitions_at s left at ≡ transition_at s at ∷ transitions_at s (left - 1) (after_transition s at)
unfolding transitions_at
one_less s zero at h = absurd (omega arith)
one_less s (suc left) at h = let e : left ≡ suc left - 1 = omega arith in ap (λ (n : ℕ). transition_at s at ∷ transitions_at s n (after_transition s at)) e

none_left : (s : List ℕ) (left at : ℕ) → left ≤ 0 → transitions_at s left at ≡ []
unfolding transitions_at
none_left s zero at h = refl
none_left s (suc left) at h = absurd (omega arith)

-- transitions, which keep their number of entries
module _ (f : Transition → Transition) (keeps : (t : Transition) → length (f t).entries ≡ length t.entries) where
  abbrev pub changed_transitions : List Transition → List ℕ
  changed_transitions ts = transitions_bytes (map f ts)

  -- the place after a record
  changed-past : (s : List ℕ) (place : ℕ) → after_transition s place ≡ place + length (transition_bytes (f (transition_at s place)))
  unfolding transition_at after_transition
  changed-past s place =
      omega (arith, transition_bytes-length (f (transition_at s place)), keeps (transition_at s place), length-entries_at s (entry_count_at s place) (place + 7))

  -- the records end where the model's end
  changed-from : (s : List ℕ) (left r : ℕ) → place_of s r + length (changed_transitions (transitions_at s left (place_of s r))) ≡ place_of s (r + left)
  unfolding transitions_bytes transitions_at
  changed-from s zero r = let e : r ≡ r + 0 = omega arith in omega (arith, ap (place_of s) e)
  changed-from s (suc left) r =
      let e : r + 1 + left ≡ r + suc left = omega arith in
      let later = place_of-next s r in
      omega (
        arith,
        later,
        changed-past s (place_of s r),
        length-append (transition_bytes (f (transition_at s (place_of s r)))) (changed_transitions (transitions_at s left (after_transition s (place_of s r)))),
        ap (λ (p : ℕ). length (changed_transitions (transitions_at s left p))) later,
        changed-from s left (r + 1),
        ap (place_of s) e,
      )

  pub changed-end : (s : List ℕ) → 8 + states_of s + length (changed_transitions (model_at s).transitions) ≡ place_of s (count_of s)
  unfolding model_at place_of
  changed-end s = let e : 0 + count_of s ≡ count_of s = omega arith in changed-from s (count_of s) 0 ∙ ap (place_of s) e

  -- what is known before each record that is written: it is written as far behind the first as it stands behind the model's first
  pub record Changing (s : List ℕ) (count at : ℕ) (before : List ℕ) (r : ℕ) (out : List ℕ) (next : ℕ) : Type 0 where
    pub place : next + (8 + states_of s) ≡ at + place_of s r
    pub ahead : Ahead (changed_transitions (model_at s).transitions) at before (changed_transitions (transitions_at s (count - r) (place_of s r))) next out

  module _ {s : List ℕ} {count at : ℕ} {before : List ℕ} where
    pub changing-start : count ≡ count_of s → at ≤ length before → Changing s count at before 0 before at
    unfolding place_of model_at
    changing-start all room =
        let e : count_of s ≡ count - 0 = omega (arith, all) in
        record {
          place = refl;
          ahead =
              subst (λ (n : ℕ). Ahead (changed_transitions (model_at s).transitions) at before (changed_transitions (transitions_at s n (8 + states_of s))) at before) e
              (ahead-start room);
        }

    module _ {r next : ℕ} {out : List ℕ} (h : Changing s count at before r out next) where
      pub changing-turn : {more : List ℕ} {past : ℕ} → r < count → Appends (transition_bytes (f (transition_at s (place_of s r)))) next out more past → Changing s count at before (r + 1) more past
      unfolding transitions_bytes
      changing-turn less a =
          let e : count - r - 1 ≡ count - (r + 1) = omega arith in
          let later = place_of-next s r in
          record {
            place = omega (arith, later, h.place, a.place, changed-past s (place_of s r));
            ahead =
                ahead-turn h.ahead
                (ap changed_transitions (one_less s (count - r) (place_of s r) (omega arith) ∙ ap₂ (λ (n p : ℕ). transition_at s (place_of s r) ∷ transitions_at s n p) e (sym later))) a;
          }

      pub changing-end : count ≤ r → Appends (changed_transitions (model_at s).transitions) at before out next
      unfolding transitions_bytes
      changing-end past = ahead-end h.ahead (ap changed_transitions (none_left s (count - r) (place_of s r) (omega arith)))
