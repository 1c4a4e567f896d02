-- Laws of the parts of a step.
use Rattle.std.specs.Prelude.{ℕ, ◌+◌, ◌*◌, ◌≤◌, ◌<◌, ◌≡◌, refl, true, Option, None, Some, IfSome, List, length}
use Rattle.std.proofs.Common.{sym, ap, subst, arith}
use borrow.Author.Rules.{rules}
use Rattle.bisimulation.proofs.argument.ChoiceLaws.{kept_less, false-not}
use Rattle.rules.specs.definitions.Limits.{limits}
use Rattle.prism.specs.definitions.Reading.{Choice}
use Rattle.prism_line.specs.declared.Whole.{Whole}
use Rattle.prism_names.specs.declared.Name.{Name}
use Rattle.prism_choice.specs.declared.Target.{Target}
use Rattle.prism_choice.specs.Targets.{CanWriteChoice}
use Rattle.prism_step.specs.declared.Begun.{Begun}
use Rattle.prism_step.specs.declared.Progress.{Progress}
use Rattle.prism_step.specs.Progressing.{BegunHolds, Holds, count_with, count_by, targets_of, fits_by, CanEnd, CanBegin}

-- a line that fits
pub record Fits (states count : ℕ) (line : Whole) : Type 0 where
  pub source : line.source < states
  pub target : line.target < states
  pub lines : count < limits.entries

pub fits-tells : (states lines : ℕ) (line : Whole) → fits_by states lines line ≡ true → Fits states lines line
unfolding fits_by
fits-tells states lines line e =
    let source = kept_less _ _ line.source states (λ t. false-not (sym t)) (sym e) in
    let target = kept_less _ _ line.target states (λ t. false-not (sym t)) source.1 in
    let entries = kept_less _ _ lines limits.entries (λ t. false-not (sym t)) target.1 in
    record { source = source.0; target = target.0; lines = entries.0 }

-- how many choices there are
count-most : (n : ℕ) (o : Option Begun) → n ≤ count_with n o
count-most n None = omega arith
count-most n (Some c) = omega arith

pub count-least : (p : Progress) → p.choices ≤ count_by p
count-least p = count-most p.choices p.begun

-- what the parts of a step ask, where the progress holds
module _ {text : List ℕ} {names : List Name} {targets : List Target} {records : List ℕ} {states : ℕ} {ended : List Choice} {p : Progress} (h : Holds text names targets records states ended p) (most : states ≤ limits.states) where
  pub choice-holds : {c : Begun} → p.begun ≡ Some c → BegunHolds text states targets p c
  choice-holds e = subst (λ (o : Option Begun). IfSome o (BegunHolds text states targets p)) e h.pending

  pub can-extend : {c : Begun} (line : Whole) → p.begun ≡ Some c → fits_by states p.lines line ≡ true → line.parts ≤ 10000 → (c.targets ≤ c.last + 1) × (line.target < limits.states) × (p.lines ≤ limits.entries) × (c.total ≤ 10000 * limits.entries) × (line.parts ≤ 10000)
  can-extend line e fits parts =
      let b = choice-holds e in
      let f = fits-tells states p.lines line fits in
      (b.few, omega (arith, f.target), h.lines, omega (arith, b.most, h.lines), parts)

  can-write : length records ≡ 7936 → (o : Option Begun) → p.begun ≡ o → IfSome o (λ c. CanWriteChoice targets c.targets c.source c.action c.divisor records p.used)
  can-write room None e = search rules
  can-write room (Some c) e =
      let b = choice-holds e in
      record {
        targets = b.fit;
        from = omega (arith, b.source);
        named = omega (arith, b.action, h.known.most);
        divides = b.positive;
        room = omega (arith, h.size, h.choices, h.lines, ap targets_of e, ap (count_with p.choices) e);
      }

  room-left : length records ≡ 7936 → (o : Option Begun) → p.begun ≡ o → p.used ≤ length records
  room-left room None e = omega (arith, h.size, h.choices, h.lines, ap targets_of e, ap (count_with p.choices) e)
  room-left room (Some c) e = omega (arith, h.size, h.choices, h.lines, ap targets_of e, ap (count_with p.choices) e)

  pub can-end : length records ≡ 7936 → CanEnd targets records p
  can-end room = record { some = can-write room p.begun refl; room = room-left room p.begun refl }

  numbers : (o : Option Begun) → p.begun ≡ o → IfSome o (λ c. c.number ≤ p.choices)
  numbers None e = search rules
  numbers (Some c) e = (choice-holds e).number

  pub number-few : IfSome p.begun (λ c. c.number ≤ p.choices)
  number-few = numbers p.begun refl

  numbered : (o : Option Begun) → p.begun ≡ o → IfSome o (λ c. c.number ≤ limits.transitions)
  numbered None e = search rules
  numbered (Some c) e = omega (arith, (choice-holds e).number, h.choices, ap (count_with p.choices) e)

  pub can-begin : (action : ℕ) → action ≤ p.names + 1 → length records ≡ 7936 → CanBegin p action targets records
  can-begin action next room =
      record {
        numbered = numbered p.begun refl;
        counted = omega (arith, count-least p, h.choices);
        lines = h.lines;
        names = h.known.most;
        next = next;
        ends = can-end room;
      }
