-- The moves from a state: the left's, and behind them the right's own.
use Rattle.std.specs.Prelude.{ℕ, ◌+◌, ◌≤◌, ◌≡◌, List, ◌++◌, length}
use Rattle.std.proofs.Common.{sym, ◌∙◌, ap, length-append, arith}
use Rattle.composed_size.specs.declared.Side.{Side}
use Rattle.transition.specs.Known.{automaton_in}
use Rattle.writer.specs.Appends.{Appends}
use Rattle.writer.specs.AppendsLaws.{appended-as, append-more}
use Rattle.composed_states.specs.declared.Run.{Run}
use Rattle.composed_states.specs.Records.{left_records, state_records}
use Rattle.composed_states.specs.Needs.{IsRun, CanWriteMoves}
use Rattle.composed_states.specs.Own.{own_records, CanWriteOwns}
use Rattle.composed_states.specs.RecordsLaws.{state-parts}
use Rattle.composed_states.specs.ModelsLaws.{row_fits}
use Rattle.composed_states.specs.OwnLaws.{own-records}

module _ {left right : Side} {out : List ℕ} {at : ℕ} {from run : Run} (p : CanWriteMoves left right (state_records left.file.now right.file.now from.state run.state) out at × IsRun (automaton_in left.file.now) from × IsRun (automaton_in right.file.now) run) where
  abbrev left_bytes : List ℕ
  left_bytes = left_records left.file.now right.file.now from.state run.state

  abbrev own_bytes : List ℕ
  own_bytes = own_records left.model.actions right.file.now from.state run.state

  parts : state_records left.file.now right.file.now from.state run.state ≡ left_bytes ++ own_bytes
  parts =
      state-parts left.file.now right.file.now from.state run.state
      ∙ ap (λ (l : List ℕ). left_bytes ++ l) (sym (own-records p.0.models from.state run.state))

  room : at + length left_bytes + length own_bytes ≤ length out
  room = omega (arith, p.0.room, ap length parts, length-append left_bytes own_bytes)

  pub left-called : CanWriteMoves left right left_bytes out at × IsRun (automaton_in left.file.now) from × IsRun (automaton_in right.file.now) run
  left-called = (record { models = p.0.models; room = omega (arith, room) }, p.1, p.2)

  module _ {own : ℕ} {middle : List ℕ} (a : Appends left_bytes at out middle own) where
    pub owns-called : CanWriteOwns left.model.actions from.state right run middle own
    owns-called =
        record {
          states = row_fits p.0.models p.1.state;
          leaving = p.2;
          room = omega (arith, room, a.place, a.size);
        }

    pub state-written : {end : ℕ} {after : List ℕ} → Appends own_bytes own middle after end → Appends (state_records left.file.now right.file.now from.state run.state) at out after end
    state-written b = appended-as parts (append-more a b)
