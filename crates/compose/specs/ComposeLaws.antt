-- Laws of the call that composes: what each way out answers.
use Rattle.std.specs.Prelude.{ℕ, ◌+◌, ◌*◌, ◌≤◌, ◌<◌, ◌≡◌, List, [], ◌∷◌, length}
use Rattle.std.proofs.Math.Path.{refl, sym}
use Rattle.std.proofs.Common.{◌∙◌, ap, ap₂, subst, mul-le-mul, arith}
use Rattle.std.proofs.Math.Bool.{true, false}
use Rattle.std.proofs.Math.Decide.{dec_lt}
use Rattle.bisimulation.specs.definitions.Choice.{if_less}
use Rattle.bisimulation.proofs.argument.ChoiceLaws.{not_less, past_less, kept_less, false-not}
use Rattle.bisimulation.specs.definitions.Composed.{highest_label}
use Rattle.rules.specs.definitions.Limits.{limits, current}
use Rattle.rules.specs.definitions.Model.{Transition, Model, automaton_of}
use Rattle.rules.specs.definitions.Reading.{model_at, read_whole}
use Rattle.rules.specs.definitions.SoundModel.{SoundModel, Bytes, sum_over, entry_count}
use Rattle.rules.specs.definitions.Answers as rules
use Rattle.rules.specs.definitions.Answers.{Outcome, answer_without_place}
use Rattle.rules.specs.definitions.Made.{made_outcome, OfTwo, two_files}
use Rattle.rules.proofs.argument.SoundModelLaws.{current-fit, sound-any}
use Rattle.rules.proofs.argument.LengthLaws.{file-length}
use Rattle.rules.proofs.argument.MadeLaws.{many-states, many-transitions, many-entries, made-over, made-within, both_read}
use Rattle.composition.specs.definitions.Composition.{composed, composed_file}
use Rattle.composition.specs.definitions.ComposeAnswer.{long_denominator, passes_composed, compose_outcome}
use Rattle.composition.proofs.argument.ComposedCounts.{longer, long-counted}
use Rattle.composition.proofs.argument.ComposedLabels.{composed-states, composed-highest}
use Rattle.composition.proofs.argument.SoundComposition.{few-denominators, labels-few, composed-passes, composed-sound}
use Rattle.composition.proofs.argument.SoundComposition.{over-sizes, over-denominators, over-labels}
use Rattle.composition.proofs.argument.ComposeAnswerLaws.{compose-demands}
use Rattle.model.specs.declared.Model.{Model as Found}
use Rattle.transition.specs.Known.{automaton_in, Known}
use Rattle.transition.specs.KnownLaws.{known-states, few-states}
use Rattle.two_models.specs.TwoModels.{BothSound, RefusesTwo}
use Rattle.answer.specs.declared.Answer.{Answer}
use Rattle.answer.specs.Answered.{Says, FileAnswered, FileWritten, OutcomeIs}
use Rattle.answer.specs.AnsweredLaws.{gives-unwritten, without-stretch, file-stretch}
use Rattle.composed_size.specs.declared.Sizes.{Sizes}
use Rattle.composed_size.specs.Sides.{Sides, composed_in, two-sides}
use Rattle.composed_size.specs.declared.Side.{Side}
use Rattle.composed_size.specs.Counted.{MovesCounted}
use Rattle.composed_file.specs.ComposedFile.{CanWriteComposed}
use Rattle.compose.specs.Compose.{ComposeAnswered, ComposesSound, passes_states, passes_moves, StatesWithin, CanWriteFile}

-- the tests of the sizes are those of the composition
module _ (M N : Model) where
  abbrev J : Model
  J = composed M N

  module _ {states label : ℕ} (s : states ≡ length J.labels) (b : label ≡ highest_label (automaton_of J)) where
    pub over-states : true ≡ passes_states states label → passes_composed current M N ≡ true
    unfolding passes_states
    over-states e = go (dec_lt current.states states)
      where
        go : Dec (current.states < states) → passes_composed current M N ≡ true
        go (yes h) = over-sizes current M N (sym (many-states current J (omega (arith, h, s))))
        go (no h) =
            let past = e ∙ sym (not_less true {a = current.states} {b = states} (omega arith) refl) in
            over-labels current M N (omega (arith, b, (kept_less true false current.label label (λ z. false-not (sym z)) past).0))

    pub in-states : false ≡ passes_states states label → (length J.labels ≤ current.states) × (highest_label (automaton_of J) ≤ current.label)
    unfolding passes_states
    in-states e =
        let p = past_less true _ current.states states false-not e in
        (omega (arith, s, p.0), omega (arith, b, (past_less true false current.label label false-not p.1).0))

  abbrev long_ones : ℕ
  long_ones = sum_over (λ (t : Transition). longer t.denominator) J.transitions

  module _ {transitions entries long : ℕ} (t : transitions ≡ length J.transitions) (c : entries ≡ entry_count J) (d : long ≡ long_ones) where
    long-test : long_denominator J.transitions ≡ if_less 0 long true false
    long-test = long-counted J.transitions ∙ ap (λ (k : ℕ). if_less 0 k true false) (sym d)

    pub over-moves : true ≡ passes_moves transitions entries long → passes_composed current M N ≡ true
    unfolding passes_moves
    over-moves e = go (dec_lt current.transitions transitions) (dec_lt current.entries entries)
      where
        go : Dec (current.transitions < transitions) → Dec (current.entries < entries) → passes_composed current M N ≡ true
        go (yes h) q = over-sizes current M N (sym (many-transitions current J (omega (arith, h, t))))
        go (no l) (yes h) = over-sizes current M N (sym (many-entries current J (omega (arith, h, c))))
        go (no l) (no h) =
            let few = not_less true {a = current.entries} {b = entries} (omega arith) refl in
            over-denominators current M N (long-test ∙ sym (e ∙ sym (not_less true {a = current.transitions} {b = transitions} (omega arith) few)))

    pub none_over : length J.labels ≤ current.states → highest_label (automaton_of J) ≤ current.label → false ≡ passes_moves transitions entries long → passes_composed current M N ≡ false
    unfolding passes_moves
    none_over states labels e =
        let p = past_less true _ current.transitions transitions false-not e in
        let q = past_less true _ current.entries entries false-not p.1 in
        composed-passes current M N
        (record {
          sizes = record { states = states; transitions = omega (arith, t, p.0); entries = omega (arith, c, q.0) };
          denominators = few-denominators J.transitions (long-test ∙ sym q.1);
          labels = labels;
        })

-- two sound models as sides, and the numbers that their heads and labels come to
pub sides : {left right left_table right_table : List ℕ} {m k : Found} → BothSound left m right k right_table → Known left m.states m.transitions left_table → Sides left m left_table right k right_table
sides j known =
    record { first = record { known = known; actions = j.one.actions }; second = record { known = j.known; actions = j.other.actions } }

pub states-product : {left right left_table right_table : List ℕ} {m k : Found} → Sides left m left_table right k right_table → m.states * k.states ≡ length (composed_in left right).labels
unfolding automaton_of
states-product {left} {right} s =
    sym (composed-states (model_at left) (model_at right) ∙ ap₂ (λ (x y : ℕ). x * y) (known-states s.first.known) (known-states s.second.known))

pub label-highest : {left right table : List ℕ} {m k : Found} → BothSound left m right k table → {own highest : ℕ} → own ≡ highest_label (automaton_in left) → highest ≡ highest_label (automaton_in right) → own * (highest + 1) + highest ≡ highest_label (automaton_of (composed_in left right))
label-highest {left} {right} j e f =
    ap₂ (λ (x y : ℕ). x * (y + 1) + y) e f
    ∙ sym (composed-highest (model_at left) (model_at right) j.one.sound.some_state j.other.sound.some_state)

-- what is known of the states and labels of the two
module _ {left right table : List ℕ} {m k : Found} (j : BothSound left m right k table) where
  pub few-pairs : m.states * k.states ≤ current.states * current.states
  few-pairs = mul-le-mul {n₂ = current.states} {m₂ = current.states} (few-states j.one.known.known) (few-states j.known)

  module _ {own highest : ℕ} (e : own ≡ highest_label (automaton_in left)) (f : highest ≡ highest_label (automaton_in right)) where
    pub small-highest : highest ≤ current.label
    small-highest = omega (arith, f, labels-few current (model_at right) j.other.sound.labels)

    pub small-label : own * (highest + 1) ≤ current.label * (current.label + 1)
    small-label =
        mul-le-mul {n₂ = current.label} {m₂ = current.label + 1}
        (omega (arith, e, labels-few current (model_at left) j.one.sound.labels)) (omega (arith, small-highest))

    pub many-pairs : true ≡ passes_states (m.states * k.states) (own * (highest + 1) + highest) → passes_composed current (model_at left) (model_at right) ≡ true
    many-pairs = over-states (model_at left) (model_at right) (states-product (sides j j.one.known.known)) (label-highest j e f)

    pub states-within : false ≡ passes_states (m.states * k.states) (own * (highest + 1) + highest) → StatesWithin left m right k table (highest + 1)
    states-within p =
        let i = in-states (model_at left) (model_at right) (states-product (sides j j.one.known.known)) (label-highest j e f) p in
        record { models = j; label = omega (arith, f); states = i.0; labels = i.1 }

-- and of the moves
module _ {left right table : List ℕ} {m k : Found} {factor : ℕ} {sizes : Sizes} (w : StatesWithin left m right k table factor) (c : MovesCounted left right sizes) (p : false ≡ passes_moves sizes.transitions sizes.entries sizes.long) where
  pub moves-within : passes_composed current (model_at left) (model_at right) ≡ false
  moves-within = none_over (model_at left) (model_at right) c.transitions c.entries c.long w.states w.labels p

  pub sound-within : SoundModel limits (composed_in left right)
  sound-within =
      let j = w.models in
      sound-any current (composed_in left right)
      (composed-sound current (model_at left) (model_at right) j.one.sound j.other.sound moves-within)

-- the length of the file, and room for it
module _ {left right : Side} {factor : ℕ} {sizes : Sizes} (w : CanWriteFile left right factor sizes) where
  pub few-sizes : (left.model.states * right.model.states ≤ limits.states) × (sizes.transitions ≤ limits.transitions) × (sizes.entries ≤ limits.entries)
  few-sizes =
      let J = w.models.sound in (
        omega (arith, states-product (two-sides left.known right.known), J.states),
        omega (arith, w.counted.transitions, J.count),
        omega (arith, w.counted.entries, J.entries),
      )

  module _ {size : ℕ} (e : size ≡ 8 + left.model.states * right.model.states + 7 * sizes.transitions + 3 * sizes.entries) where
    pub composed-size : size ≡ length (composed_file (model_at left.file.now) (model_at right.file.now))
    composed-size =
        omega (arith, e, file-length (composed_in left.file.now right.file.now), states-product (two-sides left.known right.known), w.counted.transitions, w.counted.entries)

    pub composed-room : {out : List ℕ} → size ≤ length out → CanWriteComposed left right factor sizes.transitions out
    composed-room h = record { models = w.models; label = w.label; count = w.counted.transitions; room = omega (arith, h, composed-size) }

-- each way out for two sound models
module _ {left right : List ℕ} (before : List ℕ) where
  pub limit-passed : {r : Answer} → passes_composed current (model_at left) (model_at right) ≡ true → Says (answer_without_place 37) 0 r → ComposesSound left right before before r
  limit-passed e a = without-stretch 37 a.answer (gives-unwritten (before ∷ []) _ a (made-over 37 38 _ (composed_in left right) (before ∷ []) e))

  pub file-composed : {after : List ℕ} {size : ℕ} {r : Answer} → passes_composed current (model_at left) (model_at right) ≡ false → FileWritten (composed_file (model_at left) (model_at right)) before after size → FileAnswered 38 size (length before) r → ComposesSound left right before after r
  file-composed {after} {size} {r} e w a =
      subst (λ (o : Outcome). OutcomeIs o (two_files left right) (after ∷ []) r) (made-within 37 38 _ (composed_in left right) (before ∷ []) e)
      (file-stretch 38 (composed_file (model_at left) (model_at right)) before w a)

-- what is made of the two
abbrev composes : OfTwo
composes M N = made_outcome 37 38 (passes_composed current M N) (composed M N)

module _ {left right : List ℕ} (b : Bytes left) (c : Bytes right) (before : List ℕ) where
  -- an outcome with its demands
  with-demands : {after : List ℕ} {r : Answer} → OutcomeIs (compose_outcome current (read_whole current) left right before) (two_files left right) (after ∷ []) r → ComposeAnswered left right before after r
  with-demands {after} {r} o =
      let number = ap (λ (x : rules.Answer). x.number) o.gives.answer in
      record { outcome = o; demands = compose-demands current current-fit left right before b c after r.number number o.gives.buffers }

  pub two-sound : {table : List ℕ} {m k : Found} {after : List ℕ} {r : Answer} → BothSound left m right k table → ComposesSound left right before after r → ComposeAnswered left right before after r
  two-sound {after = after} {r} j o =
      with-demands
      (subst (λ (x : Outcome). OutcomeIs x (two_files left right) (after ∷ []) r)
      (both_read (read_whole current) composes left right (before ∷ []) j.one.model.reads j.other.model.reads) o)

  pub two-refused : {r : Answer} → RefusesTwo left right r → ComposeAnswered left right before before r
  two-refused a = with-demands (a.refuses composes (before ∷ []))
