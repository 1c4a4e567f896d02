-- The lines one after the other, as the definition reads them.
use Rattle.std.specs.Prelude.{ℕ, ◌+◌, ◌-◌, ◌≤◌, ◌<◌, ◌≡◌, true, false, Option, None, Some, Ok, Err, IfSome}
use Rattle.std.proofs.Math.Path.{refl, ap, ap₂}
use Rattle.std.proofs.Common.{sym, ◌∙◌, subst, drop-cons, arith, rules}
use mathlib.Core.List.{List, []}
use Rattle.std.proofs.Math.ListN.{length, drop, length-drop}
use Rattle.std.proofs.Math.Seq.{drop-length, take_all}
use Rattle.std.proofs.Math.Decide.{ℕ_discrete}
use Rattle.bisimulation.specs.definitions.Choice.{if_same}
use Rattle.bisimulation.proofs.argument.ChoiceLaws.{same, not_same, kept_same, false-not}
use Rattle.rules.specs.definitions.Bytes.{byte_at}
use Rattle.rules.specs.definitions.Faults as rules-faults
use Rattle.rules.specs.definitions.Limits.{limits}
use Rattle.rules.specs.definitions.Model.{transitions_bytes}
use Rattle.prism.specs.definitions.Lines as prism
use Rattle.prism.specs.definitions.Reading as reading
use Rattle.prism.specs.definitions.Reading.{Choice, Pending, ReadText, holds, refused_at, unless_total, last_piece, at_end, choices_of, after_step, nothing_read}
use Rattle.prism.proofs.argument.ReadingLaws.{rest_at, rest_end}
use Rattle.text_fields.specs.Fields.{PieceEnds}
use Rattle.fault.specs.declared.Fault.{Fault}
use Rattle.fault.specs.Faults.{number_of, PlacedAt}
use Rattle.prism_line.specs.declared.Line.{Line}
use Rattle.prism_line.specs.declared.Head.{Head}
use Rattle.prism_line.specs.LineRead.{LineRead}
use Rattle.prism_names.specs.declared.Name.{Name}
use Rattle.prism_choice.specs.declared.Target.{Target}
use Rattle.prism_names.specs.Names.{between, names_in}
use Rattle.prism_names.specs.NamesLaws.{known-none}
use Rattle.prism_step.specs.declared.Progress.{Progress}
use Rattle.prism_step.specs.Progressing.{pending_in, progress_in, Holds, count_by, short_by, nothing_by, CanStep, Takes, StepSays}
use Rattle.prism_text.specs.LinesRead.{head_in, counts_by, CanRead, text_from, LinesRefused, LinesRead}
use Rattle.prism_step.specs.ProgressLaws.{all-count, unless_short, short-says, short-inside}

true-not : true ≡ false → ⊥
true-not e = false-not (sym e)

-- the line at a place that is ended, or the bytes behind the last 0A
module _ (h : prism.Head) (r : reading.Progress) {text : List ℕ} {at end : ℕ} (e : PieceEnds text at 0x0A end) where
  text-turn : (end ≡ length text → ⊥) → text_from h r text at ≡ unless_total r.pending (between text at end) (after_step (reading.step limits h r at (between text at end)) at (λ next. text_from h next text (end + 1)))
  unfolding byte_at
  text-turn before-end =
      let inside : end < length text = omega (arith, e.within) in
      rest_at limits h r text at end e.after e.clear inside (e.stops inside)

  text-last : end ≡ length text → text_from h r text at ≡ unless_total r.pending (between text at end) (last_piece h r at (drop at text))
  unfolding byte_at
  text-last last =
      let whole : between text at end ≡ drop at text = take_all (end - at) (drop at text) (omega (arith, length-drop at text)) in
      rest_end limits h r text at end e.after e.clear last
      ∙ ap (λ (l : List ℕ). unless_total r.pending l (last_piece h r at (drop at text))) (sym whole)

-- what is known before each line
pub record Between (text : List ℕ) (from : ℕ) (head : Head) (names : List Name) (targets : List Target) (records : List ℕ) (p : Progress) (at : ℕ) : Type 0 where
  pub inside : at ≤ length text
  pub room : length records ≡ 7936
  pub most : head.states ≤ limits.states
  pub ended : List Choice
  pub holds : Holds text names targets records head.states ended p
  pub same : text_from (head_in head) nothing_read text from ≡ text_from (head_in head) (progress_in text names targets ended p) text at

pub lines_start : {text : List ℕ} {from : ℕ} {head : Head} {names : List Name} {targets : List Target} {records : List ℕ} {p : Progress} → CanRead text from head names targets records → p ≡ nothing_by → Between text from head names targets records p from
unfolding transitions_bytes names_in
lines_start {text} {from} {head} {names} {targets} {records} can e =
    subst (λ (q : Progress). Between text from head names targets records q from) (sym e)
    (record {
      inside = can.inside;
      room = can.room;
      most = can.states;
      ended = [];
      holds =
          record {
            known = known-none can.known;
            table = can.table;
            count = refl;
            bytes = refl;
            size = omega arith;
            lines = omega arith;
            choices = omega arith;
            pending = search rules;
          };
      same = refl;
    })

-- what is behind the last line, by the code's numbers: nothing, and the head's counts are the text's
module _ {text : List ℕ} {names : List Name} {targets : List Target} {records : List ℕ} {ended : List Choice} {p : Progress} {states : ℕ} (h : Holds text names targets records states ended p) (head : Head) (at : ℕ) where
  abbrev before : reading.Progress
  before = progress_in text names targets ended p

  abbrev held : ReadText
  held = holds (head_in head) (names_in text names p.names) (choices_of before)

  ends : at_end (head_in head) before at ≡ if_same (count_by p) head.choices (if_same p.lines head.transitions held (refused_at 31 at)) (refused_at 31 at)
  unfolding at_end choices_of
  ends =
      ap (λ (k : ℕ). if_same k head.choices (if_same p.lines head.transitions held (refused_at 31 at)) (refused_at 31 at)) (all-count targets ended p h.count)

  nothing-left : at ≡ length text → last_piece (head_in head) before at (drop at text) ≡ at_end (head_in head) before at
  unfolding last_piece
  nothing-left e = ap (last_piece (head_in head) before at) (ap (λ (k : ℕ). drop k text) e ∙ drop-length text)

  pub last-held : at ≡ length text → counts_by head p ≡ true → (count_by p ≡ head.choices) × (last_piece (head_in head) before at (drop at text) ≡ held)
  last-held e counts =
      let a = kept_same _ false (count_by p) head.choices true-not (sym counts) in
      let b = kept_same true false p.lines head.transitions true-not a.1 in
      (a.0, nothing-left e ∙ ends ∙ sym (same _ a.0 (same _ b.0 refl)))

  pub last-other : at < length text → last_piece (head_in head) before at (drop at text) ≡ refused_at 31 at
  unfolding last_piece
  last-other less = ap (last_piece (head_in head) before at) (drop-cons text at 0 less)

  pub last-counts : at ≡ length text → counts_by head p ≡ false → last_piece (head_in head) before at (drop at text) ≡ refused_at 31 at
  last-counts e counts = nothing-left e ∙ ends ∙ go (ℕ_discrete (count_by p) head.choices) (ℕ_discrete p.lines head.transitions)
    where
      go : Dec (count_by p ≡ head.choices) → Dec (p.lines ≡ head.transitions) → if_same (count_by p) head.choices (if_same p.lines head.transitions held (refused_at 31 at)) (refused_at 31 at) ≡ refused_at 31 at
      go (yes a) (yes b) = absurd (true-not (same _ a (same _ b refl) ∙ counts))
      go (yes a) (no b) = sym (same _ a (not_same _ b refl))
      go (no a) b = sym (not_same _ a refl)

-- a fault with this number at a place is what the text is refused with
as-fault : {text : List ℕ} {from : ℕ} {head : Head} {k place : ℕ} {f : Fault} → PlacedAt (rules-faults.fault k) place f → place ≤ length text → text_from (head_in head) nothing_read text from ≡ refused_at k place → LinesRefused text from head f
as-fault {f = f} p inside e =
    let number : number_of f.refusal ≡ _ = ap (λ (x : rules-faults.Fault). x.number) p.is in
    record { inside = omega (arith, p.at, inside); plain = p.is ∙ ap rules-faults.fault (sym number); refused = e ∙ ap₂ refused_at (sym number) (sym p.at) }

-- a line of the loop
module _ {text : List ℕ} {from : ℕ} {head : Head} {names : List Name} {targets : List Target} {records : List ℕ} {p : Progress} {at : ℕ} (b : Between text from head names targets records p at) {end : ℕ} (e : PieceEnds text at 0x0A end) {line : Line} (l : LineRead (between text at end) line) where
  abbrev now-read : reading.Progress
  now-read = progress_in text names targets b.ended p

  pub lines-can-step : CanStep text at end head.states p line names targets records
  lines-can-step =
      record { ended = b.ended; holds = b.holds; reads = l; order = e.after; inside = e.within; most = b.most; room = b.room }

  -- the choice that has begun ends there, and does not add up
  pub lines-short : {place : ℕ} → short_by p.begun line ≡ Some place → {f : Fault} → PlacedAt (rules-faults.fault 32) place f → LinesRead text from head names targets records (Err f)
  lines-short {place} short is =
      record { room = b.room; read = as-fault is (subst (λ (o : Option ℕ). IfSome o (λ k. k ≤ length text)) short (short-inside b.holds b.most l)) (b.same ∙ go (ℕ_discrete end (length text))) }
    where
      is-short : (next : ReadText) → unless_total (pending_in targets p.begun) (between text at end) next ≡ refused_at 32 place
      is-short next =
          short-says b.holds b.most l next ∙ ap (λ (o : Option ℕ). unless_short o next) short

      go : Dec (end ≡ length text) → text_from (head_in head) now-read text at ≡ refused_at 32 place
      go (yes last) = text-last (head_in head) now-read e last ∙ is-short _
      go (no n) = text-turn (head_in head) now-read e n ∙ is-short _

  module _ (adds : short_by p.begun line ≡ None) where
    goes : (next : ReadText) → unless_total (pending_in targets p.begun) (between text at end) next ≡ next
    goes next = short-says b.holds b.most l next ∙ ap (λ (o : Option ℕ). unless_short o next) adds

    all : end ≡ length text → text_from (head_in head) nothing_read text from ≡ last_piece (head_in head) now-read at (drop at text)
    all last = b.same ∙ text-last (head_in head) now-read e last ∙ goes _

    -- the text ends there
    pub lines-held : end ≡ length text → at ≡ end → counts_by head p ≡ true → LinesRead text from head names targets records (Ok p)
    lines-held last here counts =
        let k = last-held b.holds head at (here ∙ last) counts in
        record { room = b.room; read = record { count = k.0; ended = b.ended; holds = b.holds; held = all last ∙ k.1 } }

    refused-here : {f : Fault} → PlacedAt (rules-faults.fault 31) at f → end ≡ length text → last_piece (head_in head) now-read at (drop at text) ≡ refused_at 31 at → LinesRead text from head names targets records (Err f)
    refused-here p last is = record { room = b.room; read = as-fault p b.inside (all last ∙ is) }

    pub lines-open : {f : Fault} → PlacedAt (rules-faults.fault 31) at f → end ≡ length text → (at ≡ end → ⊥) → LinesRead text from head names targets records (Err f)
    lines-open p last n = refused-here p last (last-other b.holds head at (omega (arith, e.after)))

    pub lines-other : {f : Fault} → PlacedAt (rules-faults.fault 31) at f → end ≡ length text → at ≡ end → counts_by head p ≡ false → LinesRead text from head names targets records (Err f)
    lines-other p last here counts = refused-here p last (last-counts b.holds head at (here ∙ last) counts)

    -- the line is at fault, or read
    module _ (ended-there : end ≡ length text → ⊥) where
      line_read : text_from (head_in head) nothing_read text from ≡ after_step (reading.step limits (head_in head) now-read at (between text at end)) at (λ next. text_from (head_in head) next text (end + 1))
      line_read = b.same ∙ text-turn (head_in head) now-read e ended-there ∙ goes _

      pub lines-fault : {names₁ : List Name} {targets₁ : List Target} {records₁ : List ℕ} → {f : Fault} → PlacedAt (rules-faults.fault 31) at f → StepSays text at end head.states p names names₁ targets targets₁ records records₁ None → LinesRead text from head names₁ targets₁ records₁ (Err f)
      unfolding after_step
      lines-fault is says =
          record {
            room = says.room ∙ b.room;
            read =
                as-fault is b.inside
                (line_read ∙ ap (λ (s : reading.Step). after_step s at (λ next. text_from (head_in head) next text (end + 1))) (says.says (head_in head) refl b.ended b.holds));
          }

      pub lines-turn : {names₁ : List Name} {targets₁ : List Target} {records₁ : List ℕ} {q : Progress} → StepSays text at end head.states p names names₁ targets targets₁ records records₁ (Some q) → Between text from head names₁ targets₁ records₁ q (end + 1)
      unfolding after_step
      lines-turn {names₁} {targets₁} {records₁} {q} says =
          let t : Takes (head_in head) text at end now-read names₁ targets₁ records₁ q = says.says (head_in head) refl b.ended b.holds in
          record {
            inside = omega (arith, e.within);
            room = says.room ∙ b.room;
            most = b.most;
            ended = t.ended;
            holds = t.holds;
            same =
                line_read
                ∙ ap (λ (s : reading.Step). after_step s at (λ next. text_from (head_in head) next text (end + 1))) t.says;
          }
