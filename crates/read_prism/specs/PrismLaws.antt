-- Laws of the call that reads a PRISM text: its head line, what was read as a model, and what each way out answers.
use Rattle.std.specs.Prelude.{ℕ, zero, suc, ◌+◌, ◌-◌, ◌≤◌, ◌<◌, ◌≡◌, refl, replicate}
use Rattle.std.proofs.Math.Path.{sym, ap, subst}
use Rattle.std.proofs.Common.{◌∙◌, ap₂, length-take-le, arith}
use mathlib.Core.List.{List, [], ◌∷◌, ◌++◌, map}
use Rattle.std.proofs.Math.ListN.{length, take, drop, length-append, length-replicate}
use Rattle.std.proofs.lemmas.List.{length-map}
use Rattle.rules.specs.definitions.Limits.{limits}
use Rattle.rules.specs.definitions.Bytes.{two_bytes, byte_at}
use Rattle.rules.specs.definitions.Model.{Transition, head_bytes, labels_bytes, transitions_bytes, model_bytes}
use Rattle.rules.specs.definitions.Faults as rules-faults
use Rattle.rules.specs.definitions.Answers as rules
use Rattle.rules.specs.definitions.Answers.{Outcome, refusal_in, file_of, files_outcome}
use Rattle.prism.specs.definitions.Lines.{no_head, read_head}
use Rattle.prism.specs.definitions.Reading.{nothing_read, choices_of, refused_at, read_prism}
use Rattle.prism.specs.definitions.HeldModel.{transition_of, held_model}
use Rattle.prism.proofs.argument.PieceLaws.{Without, stretch-without, stretch-parted, last-without}
use Rattle.prism.proofs.argument.ReadingLaws.{read_rest, read-head, read-no-head, read-unended}
use Rattle.prism.proofs.argument.PrismHolds.{text-refused, text-held, prism-demands-today}
use Rattle.fault.specs.declared.Fault.{Fault}
use Rattle.fault.specs.Faults.{fault_of, PlacedAt}
use Rattle.answer.specs.declared.Answer.{Answer}
use Rattle.answer.specs.Answered.{Says, FileAnswered, OutcomeIs}
use Rattle.answer.specs.AnsweredLaws.{with-stretch, file-stretch, written-short, written-whole}
use Rattle.writer.specs.Appends.{Appends, CanWriteModel, WritesModel}
use Rattle.writer.specs.AppendsLaws.{file-filled}
use Rattle.text_fields.specs.Fields.{PieceEnds}
use Rattle.prism_line.specs.declared.Head.{Head}
use Rattle.prism_line.specs.LineRead.{HeadIs}
use Rattle.prism_names.specs.declared.Name.{Name}
use Rattle.prism_names.specs.NamesLaws.{names-length}
use Rattle.prism_choice.specs.declared.Target.{Target}
use Rattle.prism_step.specs.declared.Progress.{Progress}
use Rattle.prism_step.specs.Progressing.{pending_bytes}
use Rattle.prism_text.specs.LinesRead.{head_in, text_from, LinesHeld, LinesRefused}
use Rattle.prism_step.specs.ProgressLaws.{all_in, all-count}
use Rattle.prism_step.specs.KeptLaws.{all-written}
use Rattle.read_prism.specs.Prism.{PrismAnswered, PrismSays, HeadEnds, unlabelled, CanWriteFile, WritesFile, CanWriteHeld, HeldWritten}

-- labels that are all 0
pub zeros-taken : (n k : ℕ) → n ≤ k → take {A = ℕ} n (replicate k 0) ≡ replicate n 0
zeros-taken zero k h = refl
zeros-taken (suc n) zero h = absurd (omega arith)
zeros-taken (suc n) (suc k) h = ap (λ (l : List ℕ). 0 ∷ l) (zeros-taken n k (omega arith))

-- the file's length, by that of its records
module _ {n m count : ℕ} {records : List ℕ} (can : CanWriteFile n m count records) where
  unlabelled-size : (ts : List Transition) → records ≡ transitions_bytes ts → 8 + n + length records ≡ length (model_bytes (unlabelled n m ts))
  unfolding model_bytes head_bytes labels_bytes two_bytes
  unlabelled-size ts e =
      omega (arith, length-append (replicate n 0) (transitions_bytes ts), length-replicate {A = ℕ} n 0, ap length e)

  pub can_write : {labels out : List ℕ} → labels ≡ replicate n 0 → 8 + n + length records ≤ length out → CanWriteModel m labels count records out
  can_write e h =
      let size = ap length e ∙ length-replicate n 0 in
      record { states = omega (arith, can.states); actions = omega (arith, can.actions); transitions = omega (arith, can.transitions); room = omega arith }

  pub file-written : {labels before after : List ℕ} {next size : ℕ} → labels ≡ replicate n 0 → size ≡ 8 + n + length records → size ≤ length before → WritesModel m labels count records before after next → WritesFile n m count records before after size
  file-written {labels} {before} {after} {next} e s h w =
      record {
        file = λ ts f g.
            written-whole _ (s ∙ unlabelled-size ts f) h
            (file-filled (subst (λ (l : List ℕ). Appends (model_bytes (record { actions = m; labels = l; transitions = ts })) 0 before after next) e (w.file ts f g))).1;
      }

  pub file-short : {before : List ℕ} {size : ℕ} → size ≡ 8 + n + length records → length before < size → WritesFile n m count records before before size
  file-short s h = record { file = λ ts f g. written-short _ (s ∙ unlabelled-size ts f) h }

-- the records of what was read are those of its model
module _ {head : Head} {p : Progress} {targets : List Target} {records after : List ℕ} {used : ℕ} (can : CanWriteHeld head p targets records) (a : Appends (pending_bytes targets p.begun) p.used records after used) where
  pub used-inside : used ≤ length after
  used-inside = omega (arith, a.room, a.size)

  pub can-write-file : CanWriteFile head.states (p.names + 1) head.choices (take used after)
  can-write-file =
      record {
        states = can.most;
        actions = omega (arith, can.holds.known.most);
        transitions = omega (arith, can.holds.choices, can.count);
        size = omega (arith, length-take-le used after used-inside, used-inside, a.size, can.room);
      }

  pub held-written : {size : ℕ} {before left : List ℕ} {r : Answer} → WritesFile head.states (p.names + 1) head.choices (take used after) before left size → FileAnswered 33 size (length before) r → HeldWritten head p targets records before left r
  unfolding held_model choices_of
  held-written {before = before} {left} {r} w f =
      record {
        file = λ text names ended holds.
            let choices = all_in targets ended p in
            let ts = map transition_of choices in
            let many : head.choices ≡ length ts = sym can.count ∙ sym (all-count targets ended p holds.count) ∙ sym (length-map choices transition_of) in
            subst (λ (n : ℕ). OutcomeIs (files_outcome 33 (model_bytes (unlabelled head.states (n + 1) ts) ∷ []) (before ∷ [])) (text ∷ []) (left ∷ []) r) (sym (names-length text names p.names))
            (file-stretch 33 _ before (w.file ts (all-written holds can.most a).bytes many) f);
      }

-- the head line
module _ {text : List ℕ} {end : ℕ} where
  pub unended : PieceEnds text 0 0x0A end → end ≡ length text → read_prism limits text ≡ refused_at 31 0
  unfolding byte_at
  unended e z = read-unended limits text (last-without 0x0A text 0 end e.after e.clear z)

  module _ (e : HeadEnds text end) where
    all : end - 0 ≡ end
    all = omega arith

    free : Without 0x0A (take end text)
    unfolding byte_at
    free = subst (λ (k : ℕ). Without 0x0A (take k text)) all (stretch-without 0x0A text 0 end e.piece.after e.piece.clear e.piece.within)

    whole : read_prism limits text ≡ read_prism limits (take end text ++ (0x0A ∷ drop (end + 1) text))
    unfolding byte_at
    whole =
        ap (read_prism limits)
        (stretch-parted 0x0A text 0 end e.piece.after e.piece.clear e.inside (e.piece.stops e.inside)
        ∙ ap (λ (k : ℕ). take k text ++ (0x0A ∷ drop (end + 1) text)) all)

    pub head-broken : read_head limits (take end text) ≡ no_head → read_prism limits text ≡ refused_at 31 0
    head-broken z = whole ∙ read-no-head limits (take end text) free (drop (end + 1) text) z

    pub head-good : {head : Head} → HeadIs (take end text) head → read_prism limits text ≡ text_from (head_in head) nothing_read text (end + 1)
    head-good {head} r =
        let at : length (take end text) + 1 ≡ end + 1 = omega (arith, length-take-le end text e.piece.within) in
        whole
        ∙ read-head limits (take end text) free (head_in head) (drop (end + 1) text) r.good
        ∙ ap (λ (k : ℕ). read_rest limits (head_in head) nothing_read k (drop (end + 1) text)) at

-- a refusal at a place of the text
pub refusal-at : (number place size : ℕ) (h : Fault) {f : rules-faults.Fault} {r : Answer} → f ≡ rules-faults.fault number → PlacedAt f place h → Says (refusal_in (fault_of h) 1 h.place size) 0 r → Says (refusal_in (rules-faults.fault number) 1 place size) 0 r
refusal-at number place size h e p s =
    record { answer = s.answer ∙ ap₂ (λ (x : rules-faults.Fault) (k : ℕ). refusal_in x 1 k size) (p.is ∙ e) p.at; wrote = s.wrote }

-- each way out
module _ (text before : List ℕ) where
  pub refused_says : {number place : ℕ} {r : Answer} → read_prism limits text ≡ refused_at number place → place ≤ length text → Says (refusal_in (rules-faults.fault number) 1 place (length text)) 0 r → PrismSays text before before r
  unfolding file_of
  refused_says {number} {place} e h s =
      with-stretch (text ∷ []) (before ∷ []) (rules-faults.fault number) 1 place s (text-refused limits text before number place e) (omega arith) h

  pub with-demands : {after : List ℕ} {r : Answer} → PrismSays text before after r → PrismAnswered text before after r
  with-demands {after} {r} o =
      record { outcome = o; demands = prism-demands-today text before after r.number (ap (λ (x : rules.Answer). x.number) o.gives.answer) o.gives.buffers }

-- the lines behind the head
module _ {text : List ℕ} {end : ℕ} {head : Head} (e : HeadEnds text end) (r : HeadIs (take end text) head) where
  pub lines-refused : (before : List ℕ) {f : Fault} {a : Answer} → LinesRefused text (end + 1) head f → Says (refusal_in (fault_of f) 1 f.place (length text)) 0 a → PrismSays text before before a
  lines-refused before {f} n s =
      refused_says text before (head-good e r ∙ n.refused) n.inside
      (record { answer = s.answer ∙ ap (λ (x : rules-faults.Fault). refusal_in x 1 f.place (length text)) n.plain; wrote = s.wrote })

  module _ {names : List Name} {targets : List Target} {records : List ℕ} {p : Progress} (t : LinesHeld text (end + 1) head names targets records p) where
    pub lines-written : (before : List ℕ) {after : List ℕ} {a : Answer} → HeldWritten head p targets records before after a → PrismSays text before after a
    lines-written before {after} {a} w =
        subst (λ (o : Outcome). OutcomeIs o (text ∷ []) (after ∷ []) a) (text-held limits text before _ _ _ (head-good e r ∙ t.held))
        (w.file text names t.ended t.holds)
