-- The composition's file: its head, its labels and its records, one behind the other.
use Rattle.std.specs.Prelude.{ℕ, ◌+◌, ◌*◌, ◌≤◌, ◌<◌, ◌≡◌, List, length}
use Rattle.std.proofs.Math.Path.{refl, ap₂, subst}
use Rattle.std.proofs.Common.{sym, ◌∙◌, arith}
use Rattle.std.proofs.Math.ListN.{length-append}
use Rattle.bisimulation.specs.definitions.Joined.{larger}
use Rattle.rules.specs.definitions.Bytes.{two_bytes}
use Rattle.rules.specs.definitions.Model.{head_bytes, labels_bytes, model_bytes}
use Rattle.rules.specs.definitions.Reading.{model_at}
use Rattle.rules.proofs.argument.SoundModelLaws.{each_map}
use Rattle.composed_size.specs.declared.Side.{Side}
use Rattle.writer.specs.Appends.{Appends, head_bytes_of}
use Rattle.writer.specs.AppendsLaws.{append-model}
use Rattle.composition.specs.definitions.Composition.{composed, composed_file}
use Rattle.composed_size.specs.Sides.{composed_in}
use Rattle.composed_states.specs.Needs.{CanWriteMoves}
use Rattle.composed_states.specs.ModelsLaws.{left-known, right-known, states-times}
use Rattle.composed_file.specs.ComposedFile.{all_records, CanWriteComposed}
use Rattle.composed_file.specs.Labels.{CanWriteLabels}

module _ {left right : Side} {factor transitions : ℕ} {out : List ℕ} (p : CanWriteComposed left right factor transitions out) where
  abbrev labels : List ℕ
  labels = (composed_in left.file.now right.file.now).labels

  -- so many bytes
  size : length (composed_file (model_at left.file.now) (model_at right.file.now)) ≡ 8 + length labels + length (all_records left.file.now right.file.now)
  unfolding model_bytes head_bytes labels_bytes two_bytes composed
  size = omega (arith, length-append labels (all_records left.file.now right.file.now))

  pub states-fit : left.model.states * right.model.states < 256
  states-fit = omega (arith, states-times p.models, p.models.sound.states)

  module _ {actions : ℕ} (e : actions ≡ larger left.model.actions right.model.actions) where
    is-larger : actions ≡ (composed_in left.file.now right.file.now).actions
    unfolding composed
    is-larger = e ∙ ap₂ larger left.known.actions right.known.actions

    pub head-fits : (8 ≤ length out) × (left.model.states * right.model.states < 256) × (actions < 256) × (transitions < 65536)
    head-fits = (
      omega (arith, p.room, size),
      states-fit,
      omega (arith, is-larger, p.models.sound.actions),
      omega (arith, p.count, p.models.sound.count),
    )

    module _ {at : ℕ} {a : List ℕ} (h : Appends (head_bytes_of (left.model.states * right.model.states) actions transitions) 0 out a at) where
      past_head : at ≡ 8
      unfolding two_bytes
      past_head = h.place

      pub labels-fit : CanWriteLabels left.file.now left.model.states factor right.file.now right.model.states a at
      labels-fit =
          record {
            first = ((left-known p.models).states, (left-known p.models).labels);
            second = ((right-known p.models).states, (right-known p.models).labels);
            label = p.label;
            fit = each_map _ _ (λ b l. omega (arith, l)) labels p.models.sound.labels;
            room = omega (arith, past_head, h.size, p.room, size);
          }

      module _ {next : ℕ} {b : List ℕ} (l : Appends labels at a b next) where
        pub records-fit : CanWriteMoves left right (all_records left.file.now right.file.now) b next
        records-fit = record { models = p.models; room = omega (arith, l.place, l.size, past_head, h.size, p.room, size) }

        pub file-written : {end : ℕ} {after : List ℕ} → Appends (all_records left.file.now right.file.now) next b after end → Appends (composed_file (model_at left.file.now) (model_at right.file.now)) 0 out after end
        unfolding composed
        file-written {end} {after} r =
            let C = composed_in left.file.now right.file.now in
            subst (λ (x : ℕ). Appends (model_bytes (record { actions = x; labels = labels; transitions = C.transitions })) 0 out after end) is-larger
            ((append-model (sym (states-times p.models)) h l r).file C.transitions refl p.count)
