-- A model's file in which one action after the other is hidden.
use Prim.Native.Nat.{ℕ, zero, suc, ◌+◌, ◌≤◌, ◌<◌}
use Rattle.std.specs.Prelude.{◌≡◌, length, get_or, set}
use Rattle.std.proofs.Math.Path.{sym, ap}
use Rattle.std.proofs.Common.{◌∙◌, length-append, arith}
use mathlib.Core.List.{List, [], ◌∷◌, ◌++◌, map, append_assoc}
use Rattle.std.proofs.Math.ListN.{drop}
use Rattle.std.proofs.lemmas.List.{set_at}
use Rattle.std.proofs.Math.Seq.{drop-append_seam}
use Rattle.bisimulation.specs.definitions.Hidden.{hidden_action}
use Rattle.rules.specs.definitions.Bytes.{byte_at}
use Rattle.rules.specs.definitions.Model.{Transition, Model, transition_bytes, transitions_bytes, model_bytes}
use Rattle.rules.specs.definitions.Reading.{count_of, action_at, entry_count_at, after_transition, transition_at, transitions_at, model_at, place_of}
use Rattle.rules.proofs.argument.FetchedRun.{length-entries_at}
use Rattle.rules.proofs.argument.ReadBack.{transition_bytes-length}
use Rattle.rules.proofs.argument.ReadingLaws.{place_of-next}
use Rattle.composition.specs.definitions.Hiding.{member_of, hidden_transition, hidden, hidden_file}
use Rattle.transition.specs.Known.{Known}
use Rattle.transition.specs.KnownLaws.{known-own, known-transition, place-known, fixed-inside}
use Rattle.writer.specs.Appends.{Appends}
use Rattle.writer.specs.AppendsLaws.{file-filled}
use Rattle.writer.specs.ChangedRecords.{front_bytes, front-then, front-size, front-changed}

-- what stands behind a file that was copied
rest-kept : {s before out : List ℕ} {end : ℕ} → Appends s 0 before out end → drop (length s) out ≡ drop (length s) before
rest-kept {s} {before} a = ap (drop (length s)) (file-filled a).1 ∙ drop-append_seam s (drop (length s) before)

-- a record goes over from the records left to what stands before them
record-over : (front first records rest : List ℕ) → front ++ ((first ++ records) ++ rest) ≡ (front ++ first) ++ (records ++ rest)
record-over front first records rest =
    ap (λ (l : List ℕ). front ++ l) (append_assoc first records rest) ∙ sym (append_assoc front first (records ++ rest))

-- the fourth byte behind a front is overwritten
fourth-set : (front : List ℕ) (a b c y x : ℕ) (ys : List ℕ) (at : ℕ) → at ≡ length front + 3 → set (front ++ (a ∷ b ∷ c ∷ y ∷ ys)) at x ≡ front ++ (a ∷ b ∷ c ∷ x ∷ ys)
fourth-set front a b c y x ys at e =
    let three = a ∷ b ∷ c ∷ [] in
    ap (λ (l : List ℕ). set l at x) (sym (append_assoc front three (y ∷ ys)))
    ∙ set_at (front ++ three) y ys x at (length-append front three ∙ sym e)
    ∙ append_assoc front three (x ∷ ys)

-- the table has the place of a record, whose fixed fields lie in the file
pub record-placed : {s table : List ℕ} {n count : ℕ} → Known s n count table → (r : ℕ) → r < count → (get_or table r 0 ≡ place_of s r) × (place_of s r + 7 ≤ length s)
record-placed k r less = let t = known-transition k less in (place-known t, fixed-inside t)

module _ (chosen : List ℕ) where
  abbrev hides : Transition → Transition
  hides = hidden_transition (member_of chosen)

  module _ (s rest : List ℕ) where
    -- so many records, from a place of the model on, stand behind a front as they were
    abbrev Stand : (left place : ℕ) (front out : List ℕ) → Type 0
    Stand left place front out = out ≡ front ++ (transitions_bytes (transitions_at s left place) ++ rest)

    -- with their actions hidden the file is the hidden one
    abbrev Ahead : (left place : ℕ) (front : List ℕ) → Type 0
    Ahead left place front = front ++ (transitions_bytes (map hides (transitions_at s left place)) ++ rest) ≡ hidden_file chosen (model_at s) ++ rest

  -- what is known before the record r
  pub record HidingFile (s rest : List ℕ) (count r : ℕ) (out : List ℕ) : Type 0 where
    left : ℕ
    front : List ℕ
    all : r + left ≡ count
    size : length front ≡ place_of s r
    stand : Stand s rest left (place_of s r) front out
    ahead : Ahead s rest left (place_of s r) front

  front-hidden : (M : Model) → front_bytes (hidden chosen M) ≡ front_bytes M
  unfolding hidden
  front-hidden M = front-changed hides M

  module _ {s table : List ℕ} {n count : ℕ} (k : Known s n count table) (own : s ≡ model_bytes (model_at s)) where
    pub hiding-start : {before out : List ℕ} {end : ℕ} → Appends s 0 before out end → HidingFile s (drop (length s) out) count 0 out
    unfolding model_at place_of hidden
    hiding-start {before} {out} a =
        let rest = drop (length s) out in
        record {
          left = count_of s;
          front = front_bytes (model_at s);
          all = omega (arith, k.transitions);
          size = front-size s (known-own k).labels;
          stand =
              (file-filled a).1
              ∙ ap (λ (l : List ℕ). s ++ l) (sym (rest-kept a))
              ∙ ap (λ (l : List ℕ). l ++ rest) own
              ∙ front-then (model_at s) rest;
          ahead =
              ap (λ (l : List ℕ). l ++ (transitions_bytes (hidden chosen (model_at s)).transitions ++ rest)) (sym (front-hidden (model_at s)))
              ∙ sym (front-then (hidden chosen (model_at s)) rest);
        }

  module _ {s rest : List ℕ} {count r : ℕ} {out : List ℕ} (h : HidingFile s rest count r out) where
    pub hiding-turn : r < count → {at x : ℕ} → at ≡ place_of s r + 3 → x ≡ hidden_action (member_of chosen) (byte_at s at) → HidingFile s rest count (r + 1) (set out at x)
    unfolding transitions_at transitions_bytes transition_bytes transition_at hidden_transition action_at after_transition
    hiding-turn less {at} {x} e f = go h.left h.all h.stand h.ahead
      where
        place : ℕ
        place = place_of s r

        past : place_of s (r + 1) ≡ after_transition s place
        past = place_of-next s r

        t : Transition
        t = transition_at s place

        with_action : ℕ → Transition
        with_action a = record { source = t.source; action = a; denominator = t.denominator; entries = t.entries }

        is_hidden : with_action x ≡ hides t
        is_hidden = ap with_action (f ∙ ap (λ (p : ℕ). hidden_action (member_of chosen) (byte_at s p)) e)

        front : List ℕ
        front = h.front ++ transition_bytes (hides t)

        go : (left : ℕ) → r + left ≡ count → Stand s rest left place h.front out → Ahead s rest left place h.front → HidingFile s rest count (r + 1) (set out at x)
        go zero all stand ahead = absurd (omega (arith, all, less))
        go (suc left) all stand ahead =
            let later = transitions_at s left (after_transition s place) in
            record {
              left = left;
              front = front;
              all = omega (arith, all);
              size =
                  omega (
                    arith,
                    length-append h.front (transition_bytes (hides t)),
                    transition_bytes-length (hides t),
                    length-entries_at s (entry_count_at s place) (place + 7),
                    h.size,
                    past,
                  );
              stand =
                  ap (λ (l : List ℕ). set l at x) stand
                  ∙ fourth-set h.front _ _ _ _ x _ at (omega (arith, e, h.size))
                  ∙ ap (λ (u : Transition). h.front ++ ((transition_bytes u ++ transitions_bytes later) ++ rest)) is_hidden
                  ∙ record-over h.front (transition_bytes (hides t)) (transitions_bytes later) rest
                  ∙ ap (λ (p : ℕ). front ++ (transitions_bytes (transitions_at s left p) ++ rest)) (sym past);
              ahead =
                  ap (λ (p : ℕ). front ++ (transitions_bytes (map hides (transitions_at s left p)) ++ rest)) past
                  ∙ sym (record-over h.front (transition_bytes (hides t)) (transitions_bytes (map hides later)) rest)
                  ∙ ahead;
            }

    hiding-past : count ≤ r → out ≡ hidden_file chosen (model_at s) ++ rest
    unfolding transitions_at transitions_bytes
    hiding-past past = go h.left h.all h.stand h.ahead
      where
        go : (left : ℕ) → r + left ≡ count → Stand s rest left (place_of s r) h.front out → Ahead s rest left (place_of s r) h.front → out ≡ hidden_file chosen (model_at s) ++ rest
        go zero all stand ahead = stand ∙ ahead
        go (suc left) all stand ahead = absurd (omega (arith, all, past))

  pub hiding-end : {s before copy after : List ℕ} {end count r : ℕ} → Appends s 0 before copy end → HidingFile s (drop (length s) copy) count r after → count ≤ r → after ≡ hidden_file chosen (model_at s) ++ drop (length s) before
  hiding-end {s} a h past = hiding-past h past ∙ ap (λ (l : List ℕ). hidden_file chosen (model_at s) ++ l) (rest-kept a)
