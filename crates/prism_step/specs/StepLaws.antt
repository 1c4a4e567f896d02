-- A line is at fault, or taken, as the definition has it.
use Rattle.std.specs.Prelude.{ℕ, zero, suc, ◌+◌, ◌-◌, ◌≤◌, ◌≡◌, true, Option, None, Some, MatchOption, length, take, drop, set}
use Rattle.std.proofs.Math.Path.{refl, sym, ap, subst}
use Rattle.std.proofs.Common.{◌∙◌, ap₂, ⊎_elim, length-drop, drop-drop, length-take-le, take_all, arith}
use Rattle.std.proofs.Math.Bool.{Bool, false}
use mathlib.Core.List.{List, [], ◌∷◌}
use Rattle.std.proofs.Math.Nat.{sub-zero}
use Rattle.bisimulation.proofs.argument.ChoiceLaws.{not_less, either_less, is_true, is_false}
use Rattle.rules.specs.definitions.Limits.{limits}
use Rattle.prism.specs.definitions.Lines as prism
use Rattle.prism.specs.definitions.Lines.{ReadLine, good, broken, read_line}
use Rattle.prism.specs.definitions.Reading as reading
use Rattle.prism.specs.definitions.Reading.{Choice, action_of, fault, read, step_read}
use Rattle.prism_line.specs.declared.Line.{Line}
use Rattle.prism_line.specs.declared.Rest.{Rest}
use Rattle.prism_line.specs.declared.Whole.{Whole}
use Rattle.prism_names.specs.declared.Name.{Name}
use Rattle.prism_choice.specs.declared.Target.{Target}
use Rattle.prism_line.specs.LineRead.{whole_in, OnlyLines, WholeRead, Beyond, begins_so}
use Rattle.prism_names.specs.Names.{between, names_in}
use Rattle.prism_names.specs.NamesLaws.{action-few}
use Rattle.prism_step.specs.declared.Begun.{Begun}
use Rattle.prism_step.specs.declared.Progress.{Progress}
use Rattle.prism_step.specs.Progressing.{progress_in, Holds, goes_on_by, fits_by, extended_by, begun_by, target_of, Extended, Began, CanStep, Takes, StepSays}
use Rattle.prism_step.specs.PartLaws.{Fits, fits-tells, number-few}
use Rattle.prism_step.specs.ProgressLaws.{step-on, step-off, fault-form, fault-unfit, fault-high, goes-is, fits-says, extends-says, begins-says, extends-tells, begins-tells, all_in}
use Rattle.prism_step.specs.KeptLaws.{extend-holds, extend-says, begin-holds, begin-says}

drop-taken : (k n : ℕ) (l : List ℕ) → drop k (take n l) ≡ take (n - k) (drop k l)
drop-taken zero n l = ap (λ (m : ℕ). take m l) (sym (sub-zero n))
drop-taken (suc k) zero l = let e : 0 ≡ 0 - suc k = omega arith in ap (λ (m : ℕ). take m (drop (suc k) l)) e
drop-taken (suc k) (suc n) [] = sym (take_all (suc n - suc k) [] (omega arith))
drop-taken (suc k) (suc n) (x ∷ l) = let e : n - k ≡ suc n - suc k = omega arith in drop-taken k n l ∙ ap (λ (m : ℕ). take m (drop k l)) e

-- no choice begins with a number that is none
goes-none : (o : Option Begun) (b : Option ℕ) (q : Option Rest) → goes_on_by o (record { source = None; choice = b; rest = q }) ≡ false
goes-none None b q = refl
goes-none (Some c) b q = refl

goes-half : (o : Option Begun) (a : ℕ) (q : Option Rest) → goes_on_by o (record { source = Some a; choice = None; rest = q }) ≡ false
goes-half None a q = refl
goes-half (Some c) a q = refl

-- it does not fit
low-source : (h : prism.Head) (r : reading.Progress) (y : prism.Line) → h.states ≤ y.source → reading.fits limits h r y ≡ false
unfolding reading.fits
low-source h r y high = sym (not_less _ high refl)

low-target : (h : prism.Head) (r : reading.Progress) (y : prism.Line) → h.states ≤ y.target → reading.fits limits h r y ≡ false
unfolding reading.fits
low-target h r y high = either_less (λ (z : Bool). z ≡ false) y.source h.states (sym (not_less _ high refl)) refl

-- a line between two places
module _ {text : List ℕ} {at end states : ℕ} {p : Progress} {names : List Name} {targets : List Target} {records : List ℕ} where
  -- one of its numbers is too high: it is at fault
  beyond-fault : (a b : Option ℕ) (q : Option Rest) → CanStep text at end states p (record { source = a; choice = b; rest = q }) names targets records → (h : prism.Head) → h.states ≡ states → (ended : List Choice) → Holds text names targets records states ended p → (y : prism.Line) → read_line (between text at end) ≡ good y → Beyond a b y → reading.step limits h (progress_in text names targets ended p) at (between text at end) ≡ fault
  beyond-fault None b q can h e ended holds y g beyond =
      ⊎_elim
      (λ high. fault-unfit holds can.most h at (between text at end) y g (low-source h _ y (omega (arith, high, can.most))))
      (λ high. fault-high holds can.most h at (between text at end) y g high (goes-is holds can.most can.reads ∙ goes-none p.begun b q))
      beyond
  beyond-fault (Some a) None q can h e ended holds y g beyond =
      ⊎_elim
      (λ high. fault-unfit holds can.most h at (between text at end) y g (low-source h _ y (omega (arith, high, can.most))))
      (λ high. fault-high holds can.most h at (between text at end) y g high (goes-is holds can.most can.reads ∙ goes-half p.begun a q))
      beyond
  beyond-fault (Some a) (Some b) q can h e ended holds y g beyond =
      fault-unfit holds can.most h at (between text at end) y g (low-target h _ y (omega (arith, beyond, can.most)))

  module _ {l : Line} (can : CanStep text at end states p l names targets records) where
    form-as : {q : Option Whole} → whole_in l ≡ q → MatchOption q (OnlyLines (between text at end) (Beyond l.source l.choice)) (WholeRead (between text at end))
    form-as e =
        subst (λ (q : Option Whole). MatchOption q (OnlyLines (between text at end) (Beyond l.source l.choice)) (WholeRead (between text at end))) e can.reads.form

    none-fault : whole_in l ≡ None → (h : prism.Head) → h.states ≡ states → (ended : List Choice) → Holds text names targets records states ended p → (y : ReadLine) → read_line (between text at end) ≡ y → reading.step limits h (progress_in text names targets ended p) at (between text at end) ≡ fault
    none-fault n h e ended holds broken q = fault-form holds can.most h at (between text at end) q
    none-fault n h e ended holds (good y) q =
        beyond-fault l.source l.choice l.rest can h e ended holds y q (form-as n y q)

    pub none-says : whole_in l ≡ None → StepSays text at end states p names names targets targets records records None
    none-says n = record { room = refl; says = λ h same ended holds. none-fault n h same ended holds _ refl }

    -- it has the form
    module _ {line : Whole} (is : whole_in l ≡ Some line) where
      pub whole : WholeRead (between text at end) line
      whole = form-as is

      -- its name stands in the text
      pub name-inside : at + line.name ≤ end
      name-inside =
          omega (arith, whole.inside, can.order, can.inside, length-take-le (end - at) (drop at text) (omega (arith, length-drop at text, can.inside)))

      name-at : drop line.name (between text at end) ≡ between text (at + line.name) end
      name-at =
          let size : end - at - line.name ≡ end - (at + line.name) = omega arith in
          drop-taken line.name (end - at) (drop at text)
          ∙ ap₂ (λ (k : ℕ) (l : List ℕ). take k l) size (drop-drop line.name at text)

      pub unfit-says : fits_by states p.lines line ≡ false → StepSays text at end states p names names targets targets records records None
      unfit-says unfit =
          record {
            room = refl;
            says = λ h same ended holds.
                fault-unfit holds can.most h at (between text at end) _ whole.good (fits-says holds can.most can.reads whole h same ∙ unfit);
          }

      -- a line with this action
      module _ {action : ℕ} (named : action ≡ action_of (names_in text names p.names) (between text (at + line.name) end)) where
        pub action-next : action ≤ p.names + 1
        action-next = omega (arith, action-few text names p.names (between text (at + line.name) end))

        by_name : action ≡ action_of (names_in text names p.names) (drop line.name (between text at end))
        by_name = named ∙ ap (action_of (names_in text names p.names)) (sym name-at)

        module _ (fit : fits_by states p.lines line ≡ true) where
          f : Fits states p.lines line
          f = fits-tells states p.lines line fit

          -- it goes on
          module _ {c : Begun} (e : p.begun ≡ Some c) (on : begins_so l c.source c.number ≡ true) where
            extended : (targets₁ : List Target) (q : Option Progress) → Extended p c line action targets targets₁ q → (h : prism.Head) → h.states ≡ states → (ended : List Choice) → Holds text names targets records states ended p → MatchOption q (reading.step limits h (progress_in text names targets ended p) at (between text at end) ≡ fault) (Takes h text at end (progress_in text names targets ended p) names targets₁ records)
            extended targets₁ None bad h same ended holds =
                step-on holds can.most can.reads whole h same at c e on
                ∙ sym (is_false _ (extends-says holds can.most can.reads whole h same fit by_name c e ∙ bad) refl)
            extended targets₁ (Some q) ex h same ended holds =
                let up = extends-tells c line action ex.good in
                subst (λ (z : Progress). Takes h text at end (progress_in text names targets ended p) names targets₁ records z) (sym ex.progress)
                (subst (λ (ts : List Target). Takes h text at end (progress_in text names targets ended p) names ts records (extended_by p c line)) (sym ex.table)
                (record {
                  ended = ended;
                  holds = subst (λ (n : ℕ). Holds text names (set targets c.targets (target_of line)) records n ended (extended_by p c line)) (sym same) (extend-holds holds can.most f whole.some whole.most e up);
                  says =
                      step-on holds can.most can.reads whole h same at c e on
                      ∙ sym (is_true _ (extends-says holds can.most can.reads whole h same fit by_name c e ∙ ex.good) refl)
                      ∙ ap read (extend-says holds can.most f whole.some whole.most e up (between text at end));
                }))

            pub extends-take : {targets₁ : List Target} {q : Option Progress} → Extended p c line action targets targets₁ q → StepSays text at end states p names names targets targets₁ records records q
            extends-take {q = q} ex = record { room = refl; says = extended _ q ex }

          -- it begins a choice
          module _ (off : goes_on_by p.begun l ≡ false) where
            begins : (names₁ : List Name) (targets₁ : List Target) (records₁ : List ℕ) (q : Option Progress) → Began p line at action (at + line.name) end names names₁ targets targets₁ records records₁ q → (h : prism.Head) → h.states ≡ states → (ended : List Choice) → Holds text names targets records states ended p → MatchOption q (reading.step limits h (progress_in text names targets ended p) at (between text at end) ≡ fault) (Takes h text at end (progress_in text names targets ended p) names₁ targets₁ records₁)
            begins names₁ targets₁ records₁ None bad h same ended holds =
                step-off holds can.most can.reads whole h same at off
                ∙ sym (is_false _ (begins-says holds can.most can.reads whole h same fit by_name ∙ bad) refl)
            begins names₁ targets₁ records₁ (Some q) be h same ended holds =
                let m = can.most in
                let b = begins-tells p line action (number-few holds m) be.good in
                let here : at ≤ length text = omega (arith, can.order, can.inside) in
                let after : Progress = begun_by p line at action q.used q.names in
                subst (λ (z : Progress). Takes h text at end (progress_in text names targets ended p) names₁ targets₁ records₁ z) (sym be.progress)
                (subst (λ (ts : List Target). Takes h text at end (progress_in text names targets ended p) names₁ ts records₁ after) (sym be.table)
                (record {
                  ended = all_in targets ended p;
                  holds = subst (λ (n : ℕ). Holds text names₁ (set targets 0 (target_of line)) records₁ n (all_in targets ended p) after) (sym same) (begin-holds holds m f whole.some whole.most b named name-inside can.inside be.kept be.ended at here);
                  says =
                      step-off holds m can.reads whole h same at off
                      ∙ sym (is_true _ (begins-says holds m can.reads whole h same fit by_name ∙ be.good) refl)
                      ∙ ap read (begin-says holds m f whole.some whole.most b named name-inside can.inside be.kept be.ended at here (between text at end) name-at);
                }))

            pub begins-take : {names₁ : List Name} {targets₁ : List Target} {records₁ : List ℕ} {q : Option Progress} → Began p line at action (at + line.name) end names names₁ targets targets₁ records records₁ q → length records₁ ≡ length records → StepSays text at end states p names names₁ targets targets₁ records records₁ q
            begins-take {q = q} be size = record { room = size; says = begins _ _ _ q be }
