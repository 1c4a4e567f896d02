-- Laws of the joined file: how its numbers come from those of two files, and its parts one after the other.
use Rattle.std.specs.Prelude.{ℕ, ◌+◌, ◌*◌, ◌-◌, ◌≤◌, ◌<◌, ◌≡◌, length, take}
use Rattle.std.proofs.Math.Path.{sym, ap, ap₂}
use Rattle.std.proofs.Common.{◌∙◌, subst, length-drop, take_all, arith}
use mathlib.Core.List.{List, ◌++◌, map}
use Rattle.std.proofs.Math.ListN.{drop}
use Rattle.std.proofs.Math.Nat.{add-sub_cancel_left}
use Rattle.rules.specs.definitions.Limits.{current}
use Rattle.rules.specs.definitions.Bytes.{two_bytes}
use Rattle.rules.specs.definitions.Model.{transitions_bytes, model_bytes}
use Rattle.rules.specs.definitions.Reading.{model_at}
use Rattle.rules.proofs.argument.FetchedRun.{before-records}
use Rattle.bisimulation.specs.definitions.Joined.{larger}
use Rattle.joined.specs.definitions.Joined.{raised_transition, joined, joined_file}
use Rattle.rules.specs.definitions.SoundModel.{entry_count}
use Rattle.rules.proofs.argument.LengthLaws.{file-length}
use Rattle.joined.proofs.argument.JoinedLaws.{joined-states, joined-transitions, joined_length, joined-sound}
use Rattle.model.specs.declared.Model.{Model as Found}
use Rattle.writer.specs.Appends.{Appends, head_bytes_of}
use Rattle.writer.specs.AppendsLaws.{append-more, append-model, transitions-append}
use Rattle.raised.specs.Raised.{raised_transitions}
use Rattle.joined_file.specs.JoinedFile.{joined_in, labels_of, CanWriteRecords, CanJoin, CanWriteJoined}
use Rattle.two_models.specs.TwoModels.{SoundFile, BothSound}

-- what the numbers of two files come to in the joined model
pub record Counted (first : List ℕ) (m : Found) (second : List ℕ) (n : Found) : Type 0 where
  pub states : length (joined_in first second).labels ≡ m.states + n.states
  pub transitions : length (joined_in first second).transitions ≡ m.transitions + n.transitions
  pub size : length (joined_file (model_at first) (model_at second)) + 8 ≡ length first + length second
  pub bytes : length (joined_file (model_at first) (model_at second)) ≡ 8 + (m.states + n.states) + 7 * (m.transitions + n.transitions) + 3 * entry_count (joined_in first second)
  pub one : 8 + m.states ≤ length first
  pub other : 8 + n.states ≤ length second

pub sums : {first second table : List ℕ} {m n : Found} → BothSound first m second n table → Counted first m second n
sums {first} {second} j =
    let f = j.one in
    let g = j.other in
    let M = model_at first in
    let N = model_at second in
    let states = joined-states M N in
    let transitions = joined-transitions M N in
    let one = ap length f.bytes ∙ file-length M in
    let other = ap length g.bytes ∙ file-length N in
    record {
      states = omega (arith, states, f.states, g.states);
      transitions = omega (arith, transitions, f.transitions, g.transitions);
      size = omega (arith, joined_length M N, ap length f.bytes, ap length g.bytes);
      bytes = omega (arith, file-length (joined M N), states, transitions, f.states, g.states, f.transitions, g.transitions);
      one = omega (arith, one, f.states);
      other = omega (arith, other, g.states);
    }

-- the labels of two files, one after the other
pub labels-written : (first second : List ℕ) (k n : ℕ) {at middle next : ℕ} {a b c : List ℕ} → Appends (take (8 + k - 8) (drop 8 first)) at a b middle → Appends (take (8 + n - 8) (drop 8 second)) middle b c next → Appends (labels_of k first ++ labels_of n second) at a c next
labels-written first second k n {at} {next = next} {a} {c = c} p q =
    subst (λ (bytes : List ℕ). Appends bytes at a c next)
    (ap₂ (λ (x y : ℕ). labels_of x first ++ labels_of y second) (add-sub_cancel_left 8 k) (add-sub_cancel_left 8 n)) (append-more p q)

-- the bytes of a file from a place on, and others after them
pub records-written : (first : List ℕ) (start : ℕ) {bytes a b c : List ℕ} {at middle next : ℕ} → Appends (take (length first - start) (drop start first)) at a b middle → Appends bytes middle b c next → Appends (drop start first ++ bytes) at a c next
records-written first start {bytes} {a} {c = c} {at} {next = next} p q =
    subst (λ (l : List ℕ). Appends (l ++ bytes) at a c next) (take_all (length first - start) (drop start first) (omega (arith, length-drop start first))) (append-more p q)

-- the joined file, one part after the other
module _ {first second table out : List ℕ} {m n : Found} (p : CanWriteJoined first m second n table out) where
  abbrev f : SoundFile first m
  f = p.models.one

  abbrev g : SoundFile second n
  g = p.models.other

  labels-are : labels_of m.states first ++ labels_of n.states second ≡ (joined_in first second).labels
  unfolding joined model_at
  labels-are = ap₂ (λ (x y : ℕ). labels_of x first ++ labels_of y second) f.head g.head

  labels_length : length (labels_of m.states first ++ labels_of n.states second) ≡ m.states + n.states
  labels_length = ap length labels-are ∙ (sums p.models).states

  first-records : drop (8 + m.states) first ≡ transitions_bytes (model_at first).transitions
  unfolding model_at
  first-records = ap (λ (k : ℕ). drop (8 + k) first) f.head ∙ before-records current first f.sound (omega (arith, f.head, (sums p.models).one)) f.bytes

  records-are : drop (8 + m.states) first ++ raised_transitions m.states (model_at second).transitions ≡ transitions_bytes (joined_in first second).transitions
  unfolding joined
  records-are =
      ap₂ (λ (l r : List ℕ). l ++ r) first-records (ap (λ (k : ℕ). raised_transitions k (model_at second).transitions) (sym f.states))
      ∙ sym (transitions-append (model_at first).transitions (map (raised_transition (length (model_at first).labels)) (model_at second).transitions))

  module _ {actions : ℕ} (e : actions ≡ larger m.actions n.actions) where
    is-larger : actions ≡ (joined_in first second).actions
    unfolding joined
    is-larger = e ∙ ap₂ larger f.actions g.actions

    -- the fields of the head fit, and there is room for it
    pub head-fits : (8 ≤ length out) × (m.states + n.states < 256) × (actions < 256) × (m.transitions + n.transitions < 65536)
    head-fits =
        let q = sums p.models in
        let j = joined-sound current (model_at first) (model_at second) f.sound g.sound p.within in (
          omega (arith, p.room, q.bytes),
          omega (arith, q.states, p.within.states),
          omega (arith, is-larger, j.actions),
          omega (arith, q.transitions, p.within.transitions),
        )

    module _ {at : ℕ} {a : List ℕ} (h : Appends (head_bytes_of (m.states + n.states) actions (m.transitions + n.transitions)) 0 out a at) where
      past_head : at ≡ 8
      unfolding two_bytes
      past_head = h.place

      pub labels-fit : (8 + m.states ≤ length first) × (8 + n.states ≤ length second) × (at + (m.states + n.states) ≤ length a)
      labels-fit = let q = sums p.models in (q.one, q.other, omega (arith, past_head, h.size, p.room, q.bytes))

      module _ {next : ℕ} {b : List ℕ} (l : Appends (labels_of m.states first ++ labels_of n.states second) at a b next) where
        pub records-fit : CanWriteRecords first (8 + m.states) second m.states b next
        records-fit =
            let q = sums p.models in
            record {
              inside = q.one;
              states = omega (arith, q.states, p.within.states, g.head);
              room = omega (arith, l.place, l.size, labels_length, past_head, h.size, p.room, q.size, q.one, q.other, g.head);
            }

        pub file-written : {end : ℕ} {after : List ℕ} → Appends (drop (8 + m.states) first ++ raised_transitions m.states (model_at second).transitions) next b after end → Appends (joined_file (model_at first) (model_at second)) 0 out after end
        file-written {end} {after} r =
            let J = joined_in first second in
            subst (λ (bytes : List ℕ). Appends bytes 0 out after end)
            (ap₂ (λ (x : ℕ) (y : List ℕ). model_bytes (record { actions = x; labels = y; transitions = J.transitions })) is-larger labels-are)
            ((append-model (sym labels_length) h l r).file J.transitions records-are (sym (sums p.models).transitions))

-- the length of the file, and room for it
module _ {first second table : List ℕ} {m n : Found} (j : CanJoin first m second n table) {size : ℕ} (e : size ≡ length first + length second - 8) where
  pub joined-size : size ≡ length (joined_file (model_at first) (model_at second))
  joined-size = omega (arith, e, sums j.models)

  pub joined-room : {out : List ℕ} → size ≤ length out → CanWriteJoined first m second n table out
  joined-room h = record { models = j.models; within = j.within; room = omega (arith, h, joined-size) }
