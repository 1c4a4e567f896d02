-- What is known between lines is kept by a line that is taken.
use Rattle.std.specs.Prelude.{ℕ, ◌+◌, ◌*◌, ◌≤◌, ◌<◌, ◌≡◌, refl, Option, None, Some, length, take, set}
use Rattle.std.proofs.Math.Path.{sym, ap, ap₂}
use Rattle.std.proofs.Common.{◌∙◌, length-set, arith}
use mathlib.Core.List.{List, [], ◌∷◌, ◌++◌, map, map-append, append-nil}
use Rattle.std.proofs.lemmas.List.{length-map}
use Rattle.numbers.specs.definitions.Divisor.{divisor, divisor_of}
use Rattle.numbers.proofs.argument.DivisorLaws.{divisor-first, divisor-greatest, divides-positive}
use Rattle.rules.specs.definitions.Limits.{limits}
use Rattle.rules.specs.definitions.Model.{Entry, Transition, transition_bytes, transitions_bytes}
use Rattle.rules.specs.definitions.SoundModel.{sum_over}
use Rattle.rules.proofs.argument.ReadBack.{transition_bytes-length}
use Rattle.prism.specs.definitions.Reading.{Choice, begun, choices_with, last_target, action_of, with_name, with_extended, with_begun, choices_of}
use Rattle.prism.specs.definitions.HeldModel.{weights_of, transition_of, transition_over, entry_over}
use Rattle.prism.proofs.argument.NameLaws.{with-count}
use Rattle.prism_line.specs.declared.Whole.{Whole}
use Rattle.prism_names.specs.declared.Name.{Name}
use Rattle.prism_choice.specs.declared.Target.{Target}
use Rattle.prism_line.specs.LineRead.{line_in}
use Rattle.prism_names.specs.Names.{between, names_in, NameKept}
use Rattle.prism_names.specs.NamesLaws.{names-length}
use Rattle.prism_choice.specs.Targets.{targets_in, over_divisor}
use Rattle.prism_choice.specs.TargetsLaws.{targets-more, targets-one, targets-length, fit-more, fit_none}
use Rattle.writer.specs.Appends.{Appends}
use Rattle.writer.specs.AppendsLaws.{appended-front, transitions-append}
use Rattle.prism_step.specs.declared.Begun.{Begun}
use Rattle.prism_step.specs.declared.Progress.{Progress}
use Rattle.prism_step.specs.Progressing.{choice_in, pending_in, progress_in, BegunHolds, Holds, count_with, count_by, targets_of, target_of, extended_by, begun_by, pending_bytes}
use Rattle.prism_step.specs.PartLaws.{Fits, choice-holds}
use Rattle.prism_step.specs.ProgressLaws.{all_in, all-count, Begins}

-- one more entry: what they add up to, the last one, the divisor
sum-longer : (es : List Entry) (e : Entry) → sum_over (λ (x : Entry). x.weight) (es ++ (e ∷ [])) ≡ sum_over (λ (x : Entry). x.weight) es + e.weight
unfolding sum_over
sum-longer [] e = omega arith
sum-longer (x ∷ es) e = omega (arith, sum-longer es e)

last-longer : (es : List Entry) (e : Entry) → last_target (es ++ (e ∷ [])) ≡ e.state
unfolding last_target
last-longer [] e = refl
last-longer (x ∷ []) e = refl
last-longer (x ∷ y ∷ es) e = last-longer (y ∷ es) e

divisor-longer : (g : ℕ) (es : List Entry) (e : Entry) → divisor_of g (weights_of (es ++ (e ∷ []))) ≡ divisor (divisor_of g (weights_of es)) e.weight
unfolding divisor_of
divisor-longer g [] e = refl
divisor-longer g (x ∷ es) e = divisor-longer (divisor g x.weight) es e

-- the records, once the one of the choice that has begun is written
pub record AllWritten (targets : List Target) (ended : List Choice) (p : Progress) (used : ℕ) (records : List ℕ) : Type 0 where
  pub size : used ≡ 7 * count_by p + 3 * p.lines
  pub bytes : take used records ≡ transitions_bytes (map transition_of (all_in targets ended p))

pub all-written : {text : List ℕ} {names : List Name} {targets : List Target} {records records₁ : List ℕ} {states used : ℕ} {ended : List Choice} {p : Progress} → Holds text names targets records states ended p → states ≤ limits.states → Appends (pending_bytes targets p.begun) p.used records records₁ used → AllWritten targets ended p used records₁
unfolding transitions_bytes transition_of transition_over choices_with
all-written {targets = targets} {records₁ = records₁} {used = used} {ended = ended} {p = p} h most written = go p.begun refl
  where
    go : (o : Option Begun) → p.begun ≡ o → AllWritten targets ended p used records₁
    go None e =
        let none_left : pending_bytes targets p.begun ≡ [] = ap (pending_bytes targets) e in
        record {
          size = omega (arith, written.place, ap length none_left, h.size, ap targets_of e, ap (count_with p.choices) e);
          bytes =
              appended-front written
              ∙ ap₂ ◌++◌ h.bytes none_left
              ∙ append-nil _
              ∙ ap (λ (o : Option Begun). transitions_bytes (map transition_of (choices_with ended (pending_in targets o)))) (sym e);
        }
    go (Some c) e =
        let b = choice-holds h most e in
        let t : Transition = over_divisor targets c.targets c.source c.action c.divisor in
        let one-record : pending_bytes targets p.begun ≡ transition_bytes t = ap (pending_bytes targets) e in
        let size = transition_bytes-length t in
        let same-transition : t ≡ transition_of (choice_in targets c) = ap (λ (g : ℕ). over_divisor targets c.targets c.source c.action g) b.divisor in
        record {
          size = omega (arith, written.place, size, ap length one-record, length-map (targets_in targets c.targets) (entry_over c.divisor), targets-length targets c.targets, h.size, ap targets_of e, ap (count_with p.choices) e);
          bytes =
              appended-front written
              ∙ ap₂ ◌++◌ h.bytes (one-record ∙ sym (append-nil (transition_bytes t)) ∙ ap (λ (u : Transition). transition_bytes u ++ []) same-transition)
              ∙ sym (transitions-append (map transition_of ended) (transition_of (choice_in targets c) ∷ []))
              ∙ ap transitions_bytes (sym (map-append transition_of ended (choice_in targets c ∷ [])))
              ∙ ap (λ (o : Option Begun). transitions_bytes (map transition_of (choices_with ended (pending_in targets o)))) (sym e);
        }

module _ {text : List ℕ} {names : List Name} {targets : List Target} {records : List ℕ} {states : ℕ} {ended : List Choice} {p : Progress} (h : Holds text names targets records states ended p) (most : states ≤ limits.states) {line : Whole} (fit : Fits states p.lines line) (some : 1 ≤ line.parts) (part : line.parts ≤ 10000) where
  -- a line that goes on
  module _ {c : Begun} (e : p.begun ≡ Some c) (ascends : c.last < line.target) where
    b : BegunHolds text states targets p c
    b = choice-holds h most e

    room : c.targets < length targets
    room = omega (arith, h.table, b.few, fit.target)

    more : targets_in (set targets c.targets (target_of line)) (c.targets + 1) ≡ targets_in targets c.targets ++ (record { state = line.target; weight = line.parts } ∷ [])
    more = targets-more targets c.targets (target_of line) room

    pub extend-holds : Holds text names (set targets c.targets (target_of line)) records states ended (extended_by p c line)
    extend-holds =
        record {
          known = h.known;
          table = length-set targets c.targets (target_of line) ∙ h.table;
          count = h.count;
          bytes = h.bytes;
          size = omega (arith, h.size, ap targets_of e);
          lines = omega (arith, fit.lines);
          choices = omega (arith, h.choices, ap (count_with p.choices) e);
          pending =
              record {
                source = b.source;
                number = b.number;
                action = b.action;
                total = omega (arith, b.total, sum-longer (targets_in targets c.targets) (record { state = line.target; weight = line.parts }), ap (sum_over (λ (x : Entry). x.weight)) more);
                most = omega (arith, b.most);
                last = sym (ap last_target more ∙ last-longer (targets_in targets c.targets) _);
                below = fit.target;
                few = omega (arith, b.few);
                divisor = ap (λ (g : ℕ). divisor g line.parts) b.divisor ∙ sym (ap (λ (es : List Entry). divisor_of 0 (weights_of es)) more ∙ divisor-longer 0 (targets_in targets c.targets) _);
                positive = divides-positive (divisor-greatest c.divisor line.parts).second some;
                fit = fit-more targets c.targets (target_of line) room b.fit (omega (arith, b.few, fit.target)) (omega (arith, fit.target)) part;
                place = b.place;
              };
        }

    -- is read as the definition has it
    pub extend-says : (s : List ℕ) → with_extended (progress_in text names targets ended p) (choice_in targets c) (line_in s line) ≡ progress_in text names (set targets c.targets (target_of line)) ended (extended_by p c line)
    unfolding with_extended
    extend-says s =
        ap (λ (es : List Entry). record { lines = p.lines + 1; names = names_in text names p.names; ended = ended; pending = begun (record { place = c.place; source = c.source; number = c.number; action = c.action; entries = es }) }) (sym more)

  -- a line that begins a choice
  module _ {action from to used seen : ℕ} {names₁ : List Name} {records₁ : List ℕ} (starts : Begins p line action) (named : action ≡ action_of (names_in text names p.names) (between text from to)) (order : from ≤ to) (inside : to ≤ length text) (kept : NameKept names names₁ p.names action from to seen) (written : Appends (pending_bytes targets p.begun) p.used records records₁ used) (place : ℕ) (in-text : place ≤ length text) where
    one : targets_in (set targets 0 (target_of line)) 1 ≡ record { state = line.target; weight = line.parts } ∷ []
    one = targets-one targets (target_of line) (omega (arith, h.table))

    seen-names : names_in text names₁ seen ≡ with_name (names_in text names p.names) (between text from to)
    seen-names = kept.names text h.known named

    has-action : action ≤ seen
    has-action =
        omega (arith, named, ap length seen-names, names-length text names₁ seen, with-count (names_in text names p.names) (between text from to))

    pub begin-holds : Holds text names₁ (set targets 0 (target_of line)) records₁ states (all_in targets ended p) (begun_by p line place action used seen)
    unfolding sum_over last_target divisor_of
    begin-holds =
        let e = all-written h most written in
        record {
          known = kept.known text h.known order inside;
          table = length-set targets 0 (target_of line) ∙ h.table;
          count = sym (all-count targets ended p h.count);
          bytes = e.bytes;
          size = omega (arith, e.size);
          lines = omega (arith, fit.lines);
          choices = omega (arith, starts.count);
          pending =
              record {
                source = fit.source;
                number = starts.choice;
                action = has-action;
                total = omega (arith, ap (sum_over (λ (x : Entry). x.weight)) one);
                most = omega arith;
                last = sym (ap last_target one);
                below = fit.target;
                few = omega arith;
                divisor = sym (ap (λ (es : List Entry). divisor_of 0 (weights_of es)) one ∙ divisor-first line.parts);
                positive = some;
                fit = fit-more targets 0 (target_of line) (omega (arith, h.table)) (fit_none h.table) (omega arith) (omega (arith, fit.target)) part;
                place = in-text;
              };
        }

    pub begin-says : (s : List ℕ) → (line_in s line).name ≡ between text from to → with_begun (progress_in text names targets ended p) place (line_in s line) ≡ progress_in text names₁ (set targets 0 (target_of line)) (all_in targets ended p) (begun_by p line place action used seen)
    unfolding with_begun choices_of
    begin-says s n = λ i. record { lines = p.lines + 1; names = all-names i; ended = all_in targets ended p; pending = begun (record { place = place; source = line.source; number = line.choice; action = by i; entries = sym one i }) }
      where
        all-names : with_name (names_in text names p.names) (line_in s line).name ≡ names_in text names₁ seen
        all-names = ap (with_name (names_in text names p.names)) n ∙ sym seen-names

        by : action_of (names_in text names p.names) (line_in s line).name ≡ action
        by = ap (action_of (names_in text names p.names)) n ∙ sym named
