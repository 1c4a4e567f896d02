-- Laws of the merged model's file in a buffer.
use Rattle.std.specs.Prelude.{ℕ, ◌+◌, ◌-◌, ◌≤◌, ◌<◌, ◌≡◌}
use Rattle.std.proofs.Common.{sym, ◌∙◌, subst, arith}
use Rattle.std.proofs.Math.Path.{ap, ap₂}
use mathlib.Core.List.{List, ◌++◌}
use lib.ListN.{length, get_or, take, drop, length-append}
use Rattle.std.proofs.Math.Seq.{length-take-le}
use borrow.Table.Elements.{take-le}
use Rattle.rules.specs.definitions.Limits.{limits}
use Rattle.rules.specs.definitions.Bytes.{two_bytes}
use Rattle.rules.specs.definitions.Model.{Transition, head_bytes, labels_bytes, transitions_bytes, model_bytes}
use Rattle.rules.specs.definitions.Reading.{states_of, actions_of, model_at}
use Rattle.rules.specs.definitions.SoundModel.{SoundModel}
use Rattle.rules.specs.definitions.BlockCount.{block_count}
use Rattle.quotient.specs.definitions.Quotient.{block_labels, by_block, quotient, merged_file}
use Rattle.rules.proofs.argument.NumberedBlocks.{NumberedBlocks}
use Rattle.quotient.proofs.argument.QuotientLaws.{quotient-sound, merged-states, merged-below}
use Rattle.answer.specs.Answered.{FileWritten}
use Rattle.answer.specs.AnsweredLaws.{written-short, written-whole}
use Rattle.limits.specs.Sizes as sizes
use Rattle.model_head.specs.declared.Head.{Head}
use Rattle.model_head.specs.Head.{HeadAt}
use Rattle.merged_transition.specs.MergedTransition.{BlocksBelow}
use Rattle.transition.specs.Known.{Known}
use Rattle.writer.specs.Appends.{Appends, CanWriteModel, WritesModel}
use Rattle.writer.specs.AppendsLaws.{appended-front}
use Rattle.merged_transitions.specs.declared.Kept.{Kept}
use Rattle.merged_transitions.specs.MergedTransitions.{transitions_in, Holds, WroteAll}
use Rattle.merged_model.specs.File.{CanWriteParts, PartsWritten}

-- records that stand in a buffer lie in it
pub held-inside : {ts : List Transition} {out : List ℕ} {kept : Kept} → Holds ts out kept → kept.size ≤ length out
held-inside {out = out} {kept} h = omega (arith, take-le kept.size out, ap length h.bytes, h.size)

-- the blocks of a sound model
module _ (s blocks : List ℕ) (sound : SoundModel limits (model_at s)) (named : NumberedBlocks (model_at s) blocks) where
  pub few-blocks : block_count blocks ≤ limits.states
  few-blocks = omega (arith, merged-states limits (model_at s) sound blocks named, (quotient-sound limits (model_at s) sound blocks named).states)

  -- the file's length
  pub file-length : {records : List ℕ} {kept : Kept} → Holds (by_block blocks (transitions_in s) (block_count blocks) 0) records kept → length (merged_file (model_at s) blocks) ≡ 8 + block_count blocks + kept.size
  unfolding merged_file model_bytes head_bytes labels_bytes two_bytes quotient
  file-length h =
      omega (arith, length-append (quotient (model_at s) blocks).labels (transitions_bytes (quotient (model_at s) blocks).transitions), merged-states limits (model_at s) sound blocks named, h.size)

states-are : (s : List ℕ) (n : ℕ) → 8 + n ≤ length s → n ≡ states_of s → take (8 + n - 8) (drop 8 s) ≡ (model_at s).labels
unfolding model_at
states-are s n h e = let f : 8 + n - 8 ≡ states_of s = omega (arith, e) in ap (λ (k : ℕ). take k (drop 8 s)) f

module _ {s places : List ℕ} {n count : ℕ} {blocks : List ℕ} {k : ℕ} {records : List ℕ} {kept : Kept} {out : List ℕ} (known : Known s n count places) (p : CanWriteParts s blocks k records kept out) where
  -- the numbers of a sound model and of its blocks fit their fields and tables
  pub parts-few : (n ≤ limits.states) × (k ≤ limits.states) × (kept.count ≤ limits.transitions)
  unfolding quotient
  parts-few =
      let q = quotient-sound limits (model_at s) known.sound blocks p.numbered in
      let counted = ap (λ (x : ℕ). length (by_block blocks (transitions_in s) x 0)) p.count in
      let states = ap length (states-are s n known.labels known.states) in (
        omega (arith, states, length-take-le (8 + n - 8) (drop 8 s) (omega (arith, known.labels, lib.ListN.length-drop 8 s)), known.sound.states),
        omega (arith, p.count, few-blocks s blocks known.sound p.numbered),
        omega (arith, p.held.count, counted, q.count),
      )

  -- so does the count of actions
  pub actions-few : {head : Head} → HeadAt s head → (head.states < 256) × (head.actions < 256)
  unfolding model_at
  actions-few h = (h.small, omega (arith, h.actions, known.sound.actions))

  pub labels-fit : (length (take (8 + n - 8) (drop 8 s)) ≡ length blocks) × (0 + k ≤ limits.states)
  labels-fit =
      (ap length (states-are s n known.labels known.states) ∙ sym p.numbered.whole, omega (arith, parts-few.1))

  module _ {start labels : List ℕ} {next : ℕ} (w : Appends (block_labels blocks (take (8 + n - 8) (drop 8 s)) k 0) 0 start labels next) where
    labels-told : block_labels blocks (take (8 + n - 8) (drop 8 s)) k 0 ≡ (quotient (model_at s) blocks).labels
    unfolding quotient
    labels-told = ap₂ (λ (l : List ℕ) (x : ℕ). block_labels blocks l x 0) (states-are s n known.labels known.states) p.count

    next-is : next ≡ k
    next-is = omega (arith, w.place, ap length labels-told, merged-states limits (model_at s) known.sound blocks p.numbered, p.count)

    pub labels-inside : k ≤ length labels
    labels-inside = omega (arith, next-is, w.room, w.size)

    first-labels : take k labels ≡ (quotient (model_at s) blocks).labels
    first-labels = ap (λ (x : ℕ). take x labels) (sym next-is) ∙ appended-front w ∙ labels-told

    pub can_write : {m count : ℕ} → m < 256 → count < 65536 → CanWriteModel m (take k labels) count (take kept.size records) out
    can_write small few =
        record {
          states = omega (arith, length-take-le k labels labels-inside, parts-few.1);
          actions = small;
          transitions = few;
          room = omega (arith, length-take-le k labels labels-inside, length-take-le kept.size records p.inside, p.room);
        }

    pub parts-written : {m end : ℕ} {after : List ℕ} → m ≡ actions_of s → WritesModel m (take k labels) kept.count (take kept.size records) out after end → PartsWritten s blocks out after
    unfolding model_at quotient merged_file
    parts-written {m} {end} {after} e g =
        let ts = by_block blocks (transitions_in s) k 0 in
        let a = g.file ts p.held.bytes p.held.count in
        let is-file : model_bytes (record { actions = m; labels = take k labels; transitions = ts }) ≡ merged_file (model_at s) blocks =
        ap₂ (λ (x : ℕ) (l : List ℕ). model_bytes (record { actions = x; labels = l; transitions = ts })) e first-labels
        ∙ ap (λ (x : ℕ). model_bytes (record { actions = actions_of s; labels = (quotient (model_at s) blocks).labels; transitions = by_block blocks (transitions_in s) x 0 })) p.count in
        let ends : end ≡ length (merged_file (model_at s) blocks) = omega (arith, a.place, ap length is-file) in
        record { buffer = a.written ∙ ap₂ (λ (l : List ℕ) (x : ℕ). l ++ drop x out) is-file ends }

-- the whole file
module _ {s : List ℕ} {n count : ℕ} {places blocks : List ℕ} {k : ℕ} (known : Known s n count places) (numbered : NumberedBlocks (model_at s) blocks) (counted : k ≡ block_count blocks) where
  states-told : length (model_at s).labels ≡ n
  states-told = sym (ap length (states-are s n known.labels known.states)) ∙ omega (arith, length-take-le (8 + n - 8) (drop 8 s) (omega (arith, known.labels, lib.ListN.length-drop 8 s)))

  pub blocks-known : BlocksBelow n k blocks
  blocks-known =
      record {
        whole = numbered.whole ∙ states-told;
        count = counted;
        below = λ v h. omega (arith, merged-below limits (model_at s) known.sound blocks numbered v (omega (arith, h, states-told)), counted);
        few = omega (arith, counted, few-blocks s blocks known.sound numbered);
      }

  module _ {start records : List ℕ} {kept : Kept} (w : WroteAll s blocks k start records kept) where
    pub small : sizes.records ≡ length start → (k ≤ limits.states) × (kept.size ≤ sizes.records)
    small e = (omega (arith, blocks-known.few), omega (arith, held-inside w.held, w.size, e))

    pub can-write-parts : {out : List ℕ} → 8 + k + kept.size ≤ length out → CanWriteParts s blocks k records kept out
    can-write-parts h =
        record {
          numbered = numbered;
          count = counted;
          held = w.held;
          inside = held-inside w.held;
          room = h;
        }

    size_is : length (merged_file (model_at s) blocks) ≡ 8 + k + kept.size
    size_is =
        let held = subst (λ (x : ℕ). Holds (by_block blocks (transitions_in s) x 0) records kept) counted w.held in
        omega (arith, file-length s blocks known.sound numbered held, counted)

    -- with room for it, and without
    pub file-written : {before after : List ℕ} {size : ℕ} → size ≡ 8 + k + kept.size → size ≤ length before → PartsWritten s blocks before after → FileWritten (merged_file (model_at s) blocks) before after size
    file-written e h q = written-whole _ (omega (arith, e, size_is)) h q.buffer

    pub file-short : {before : List ℕ} {size : ℕ} → size ≡ 8 + k + kept.size → length before < size → FileWritten (merged_file (model_at s) blocks) before before size
    file-short e h = written-short _ (omega (arith, e, size_is)) h
